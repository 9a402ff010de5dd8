-- Entries written over others: what a writer leaves in a lent buffer.
use Rattle.std.specs.Prelude.{List, ◌++◌, ℕ, ◌+◌, length, take, drop}

-- d with x from the place on, replacing as many entries
abbrev pub laid_at : ℕ → List ℕ → List ℕ → List ℕ
laid_at place x d = take place d ++ (x ++ drop (place + length x) d)
