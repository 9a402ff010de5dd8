-- Laws of information bits and the rows they fill, for every row of kinds: there and back, linear, and that all bits fill all rows.
use Rattle.std.specs.Prelude.{List, [], ◌∷◌, ◌++◌, map, ℕ, zero, suc}

-- ---- all information bits fill all rows that are 0 at every frozen index, in the same order
unfoldable pub rows_of : List ℕ → List (List ℕ)
rows_of [] = [] ∷ []
rows_of (zero ∷ ks) = map (λ u. 0 ∷ u) (rows_of ks)
rows_of (suc k ∷ ks) = map (λ u. 0 ∷ u) (rows_of ks) ++ map (λ u. 1 ∷ u) (rows_of ks)
