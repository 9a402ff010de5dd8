-- The outcome at each place where the search on a shortened set returns, and what its work requires.
use Rattle.std.specs.Prelude.{◌≡◌, List, ℕ, ℤ, length, Ok, Err}
use Rattle.std.proofs.Common.{arith}
use Rattle.numbers.specs.Sums.{sum}
use Rattle.words.specs.Kinds.{kinds}
use Rattle.decoding.specs.StepLaws.{sizes_within}
use Rattle.code.specs.declared.Code.{Code}
use Rattle.code.specs.declared.Refusal.{Refusal}
use Rattle.code.specs.Sound.{largest_reading}
use Rattle.code.specs.SoundLaws.{length_most}
use Rattle.code.specs.SoundInput.{GoodReadings, SoundFor}
use Rattle.code.specs.Admitted.{admitted_by}
use Rattle.named.specs.Named.{GoodRow, row_admitted}
use Rattle.search.specs.RunnerUp.{runner_up_outcome_by}
use Rattle.search.specs.Work.{Searchable}
use Rattle.shortened.specs.Outcome.{left_of}
use Rattle.shortened.specs.WorkLaws.{long_left, are_left}
use Rattle.shortened_search.specs.Outcome.{refused_with_none, searching_over, searching_shortened}

module _ (r m allowed : ℕ) (named : List ℕ) (l : List ℤ) (bits word : List ℕ) where
  pub searching-refused : (why : Refusal) → Err why ≡ row_admitted r m named
      → refused_with_none why bits word ≡ searching_shortened r m allowed named l bits word
  unfolding searching_shortened
  searching-refused why e = rw (← e)

  pub searching-left : (c : Code) → Ok c ≡ row_admitted r m named
      → searching_over (left_of named c) c allowed l bits word ≡ searching_shortened r m allowed named l bits word
  unfolding searching_shortened
  searching-left c e = rw (← e)

module _ (ks : List ℕ) (c : Code) (allowed : ℕ) (l : List ℤ) (bits word : List ℕ) where
  pub over-refused : (why : Refusal) → Err why ≡ admitted_by c (sum ks) l (length bits) (length word)
      → refused_with_none why bits word ≡ searching_over ks c allowed l bits word
  over-refused why e = rw (← e)

  pub over_answered : (d : Code) → Ok d ≡ admitted_by c (sum ks) l (length bits) (length word)
      → runner_up_outcome_by d.m ks l allowed bits word ≡ searching_over ks c allowed l bits word
  over_answered d e = rw (← e)

-- the kinds that are left, and readings x that are l, can be searched
pub left_searchable : (c : Code) (named ks : List ℕ) (l x : List ℤ) (bits word : List ℕ) → ks ≡ left_of named c → x ≡ l → GoodRow named (kinds c.r c.m)
    → SoundFor c (sum (left_of named c)) (length bits) (length word) (GoodReadings c l) → Searchable c.m x ks bits word
left_searchable c named ks l x bits word is same g a =
    rw (is, same)
    (record {
      most = a.sound.m_small;
      long = a.entries.long;
      small = omega (arith, sizes_within largest_reading l a.entries.within, length_most a.sound, a.entries.long);
      long_kinds = long_left named c;
      are_kinds = are_left named c;
      information = g.leaves;
      long_bits = a.long_bits;
      long_word = a.long_word;
    })
