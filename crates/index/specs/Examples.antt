-- Examples that fix how many records share an entry: a capture of 17 records of RM(0,0), three bytes each.
use Rattle.std.specs.Prelude.{◌≡◌, refl, List, [], ◌∷◌, ℕ, replicate, Ok, Err}
use Rattle.code.specs.Sound.{made}
use Rattle.code.specs.declared.Refusal.TheVariants.{Torn, NoEntry}
use Rattle.packing.specs.Layout.{part_length}
use Rattle.index.specs.Steps.{these, stepped, passed, starts_from, starts_of}
use Rattle.index.specs.Finding.{start_in}
use Rattle.index.specs.Making.{entries_of}

-- 17 records of a zero reading, and where they start
abbrev capture : List ℕ
capture = replicate 51 0

abbrev starts : List ℕ
starts = 0 ∷ 3 ∷ 6 ∷ 9 ∷ 12 ∷ 15 ∷ 18 ∷ 21 ∷ 24 ∷ 27 ∷ 30 ∷ 33 ∷ 36 ∷ 39 ∷ 42 ∷ 45 ∷ 48 ∷ []

pub record Examples : Type 0 where
  pub all-starts : starts_of capture ≡ these starts
  -- the first and the 17th have an entry
  pub entries : entries_of starts ≡ 0 ∷ 48 ∷ []
  -- record 15 is reached from the first entry, record 16 is at the second; after the last comes 10, in its block 8, in a later block 10
  pub last_of_first : start_in capture (0 ∷ 48 ∷ []) 15 ≡ Ok 45
  pub first_of_second : start_in capture (0 ∷ 48 ∷ []) 16 ≡ Ok 48
  pub right_after : start_in capture (0 ∷ 48 ∷ []) 17 ≡ Err NoEntry
  pub further_on : start_in capture (0 ∷ 48 ∷ []) 18 ≡ Err Torn
  pub next-block : start_in capture (0 ∷ 48 ∷ []) 32 ≡ Err NoEntry

pub examples : Examples
unfolding made part_length stepped passed starts_from start_in
examples =
    record {
      all-starts = refl;
      entries = refl;
      last_of_first = refl;
      first_of_second = refl;
      right_after = refl;
      further_on = refl;
      next-block = refl;
    }
