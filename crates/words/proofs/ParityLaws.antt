-- Words by their parity checks, and so the meaning of refusal 5: n bits are a word exactly if, for every frozen index i, they have an even number of ones
-- at the places j that have every one-bit of i; refusal 5 carries the lowest i whose check fails.
use Rattle.std.specs.Prelude.{◌≡◌, ◌↔◌, ℕ, ◌+◌, ◌^◌, ◌%◌, ◌<◌, length}
use Rattle.std.proofs.Math.Path.{ap}
use Rattle.std.proofs.Common.{sym, ◌∙◌, ⊎_elim, arith}
use mathlib.Core.List.{List}
use Rattle.std.proofs.Math.ListN.{get_or, get_or-eq_default}
use Rattle.numbers.specs.Choice.{lt_or_le}
use Rattle.numbers.specs.SumsLaws.{get_d_tabulate}
use Rattle.words.specs.Bits.{Bits, ones}
use Rattle.words.specs.Word.{word_bit, word_by_index, transform}
use Rattle.words.specs.Kinds.{kinds, Word}
use Rattle.words.specs.Inverse.{frozen_one, taken_back}
use Rattle.words.specs.TransformLaws.{length-transform}
use Rattle.words.proofs.KindLaws.{length-kinds, bits_kinds, kinds_at, kind_information, kind_frozen}
use Rattle.words.specs.PublishedLaws.{word_by_index_lem}
use Rattle.words.proofs.InverseLaws.{word_frozen, frozen_word, refused_lowest, lowest_refused}
use Rattle.words.specs.ParityLaws.{ones_above, Even, LowestFailed}

module _ (m : ℕ) (x : List ℕ) (f : length x ≡ 2 ^ m) (b : Bits x) where
  -- the row u that x comes from: u_i is check i, modulo 2
  pub row_checked : (i : ℕ) → i < 2 ^ m → get_or (transform m x) i 0 ≡ ones_above m x i % 2
  unfolding word_by_index word_bit ones_above
  row_checked i h = ap (λ (u : List ℕ). get_or u i 0) (sym (word_by_index_lem m x f b)) ∙ get_d_tabulate (word_bit m x) (2 ^ m) i 0 h

  module _ (ks : List ℕ) (e : length ks ≡ 2 ^ m) (h : Bits ks) where
    pub word_checked : Word m ks x ↔ ((i : ℕ) → i < 2 ^ m → get_or ks i 0 ≡ 0 → Even (ones_above m x i))
    word_checked = (
      λ w i k z. sym (row_checked i k) ∙ word_frozen m ks x e w i z,
      λ even. frozen_word m ks x e h f b
          (λ i z.
          ⊎_elim
          (λ k. row_checked i k ∙ even i k z)
          (λ k. get_or-eq_default (transform m x) 0 {n = i} (rw (length-transform m x f) k))
          (lt_or_le i (2 ^ m))),
    )

    pub refused_checked : (i : ℕ) → (taken_back m ks x ≡ frozen_one i) ↔ LowestFailed m ks x i
    refused_checked i = (
      λ t.
          let l = lowest_refused m ks x e h f b i t in
          let k : i < 2 ^ m = omega (arith, l.below) in
          record {
            below = k;
            frozen = l.frozen;
            odd = sym (row_checked i k) ∙ l.one;
            lowest = λ j n z. sym (row_checked j (omega arith)) ∙ l.lowest j n z;
          },
      λ l. refused_lowest m ks x e h f b i
          (record {
            below = omega (arith, l.below);
            frozen = l.frozen;
            one = row_checked i l.below ∙ l.odd;
            lowest = λ j n z. row_checked j (omega (arith, l.below)) ∙ l.lowest j n z;
          }),
    )

  -- the checks of RM(r,m) are those of the indices with fewer than m - r ones
  pub code_checked : (r : ℕ) → Word m (kinds r m) x ↔ ((i : ℕ) → i < 2 ^ m → ones m i + r < m → Even (ones_above m x i))
  code_checked r =
      let all = word_checked (kinds r m) (length-kinds r m) (bits_kinds r m) in (
        λ w i k few. all.0 w i k (kinds_at r m i k ∙ kind_frozen r m i few),
        λ even. all.1
            (λ i k z.
            ⊎_elim
            (even i k)
            (λ many. absurd (omega (arith, z, kinds_at r m i k, kind_information r m i many)))
            (lt_or_le (ones m i + r) m)),
      )
