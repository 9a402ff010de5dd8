-- What `first_order` reports and leaves: for RM(1,m) what the search does with an allowance as large as the whole tree, except for the visits, which are 0.
use Rattle.std.specs.Prelude.{List, cond, ℕ, ℤ, eqb}
use Rattle.words.specs.Kinds.{kinds}
use Rattle.decoding.specs.Walk.{tree}
use Rattle.code.specs.declared.Refusal.TheVariants.{Parameters}
use Rattle.search.specs.Outcome.{Outcome, refused, searching}

abbrev pub without_visits : Outcome → Outcome
without_visits o = record { number = o.number; place = o.place; penalty = o.penalty; gap = o.gap; visits = 0; bits = o.bits; word = o.word }

abbrev pub as_search : ℕ → List ℤ → List ℕ → List ℕ → Outcome
as_search m l bits word = without_visits (searching 1 m (tree (kinds 1 m)) l bits word)

-- from r, m, the readings, and the buffers for the information bits and the word: any r but 1 is refused
unfoldable pub first_ordering : ℕ → ℕ → List ℤ → List ℕ → List ℕ → Outcome
first_ordering r m l bits word = cond (eqb r 1) (as_search m l bits word) (refused Parameters bits word)
