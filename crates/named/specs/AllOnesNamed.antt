-- The all-ones word is in a shortened set exactly if the row does not name the last index, n - 1. A link that is turned over adds it to what was sent: if
-- the last index is named, that turns no word of the set into another.
use Rattle.std.specs.Prelude.{◌≡◌, ◌↔◌, List, ℕ, ◌-◌, ◌^◌, length, get_or}
use Rattle.std.proofs.Common.{ap, subst, sym, ◌∙◌}
use Rattle.std.proofs.Math.Decide.{ℕ_discrete}
use Rattle.words.specs.Bits.{xors}
use Rattle.words.specs.Kinds.{kinds, Word, all_ones}
use Rattle.words.proofs.KindLaws.{length-kinds, bits_kinds}
use Rattle.words.specs.TransformLaws.{xors_comm, xors-twice}
use Rattle.words.proofs.InverseLaws.{word-length, word_frozen, frozen_word, word-xors}
use Rattle.words.proofs.HalfLaws.{below-ones, word_ones}
use Rattle.words.proofs.AllOnesLaws.{zero_but_last, not-zero-last}
use Rattle.named.specs.Named.{left}
use Rattle.named.specs.NamedLaws.{kind_left_named, left_at, length-left, bits_left, left_other}

-- for any code and any row, good or not: with a good one the byte is 0 or 1
module _ (r m : ℕ) (named : List ℕ) where
  abbrev ks : List ℕ
  ks = left named (kinds r m)

  abbrev LastFree : Type 0
  LastFree = get_or named (2 ^ m - 1) 0 ≡ 0

  long : length ks ≡ 2 ^ m
  long = length-left named (kinds r m) ∙ length-kinds r m

  ones_free : Word m ks (all_ones m) → LastFree
  ones_free w =
      let last = 2 ^ m - 1 in
      elim (ℕ_discrete (get_or named last 0) 0) [
        | yes free ↦ free
        | no f ↦
            let frozen : get_or ks last 0 ≡ 0 = left_at named (kinds r m) last ∙ kind_left_named (get_or named last 0) (get_or (kinds r m) last 0) f in
            absurd (not-zero-last m (word_frozen m ks (all_ones m) long w last frozen))
      ]

  free_ones : LastFree → Word m ks (all_ones m)
  free_ones free =
      let b = below-ones m in
      frozen_word m ks (all_ones m) long (bits_left named (kinds r m) (bits_kinds r m)) b.long b.are_bits
      (λ i z.
      elim (ℕ_discrete i (2 ^ m - 1)) [
        | yes last ↦
            let same : get_or named i 0 ≡ 0 = ap (λ (j : ℕ). get_or named j 0) last ∙ free in
            word_frozen m (kinds r m) (all_ones m) (length-kinds r m) (word_ones r m) i (sym (left_other named (kinds r m) i same) ∙ z)
        | no f ↦ zero_but_last m i f
      ])

  pub all_ones-left : Word m ks (all_ones m) ↔ LastFree
  all_ones-left = (ones_free, free_ones)

  -- no word of the set stays in it when turned over
  pub turned_over_no_word : (LastFree → ⊥) → (x : List ℕ) → Word m ks x → Word m ks (xors x (all_ones m)) → ⊥
  turned_over_no_word f x w v =
      let b = below-ones m in
      let same : xors (xors x (all_ones m)) x ≡ all_ones m =
      ap (λ (y : List ℕ). xors y x) (xors_comm x (all_ones m))
      ∙ xors-twice (all_ones m) x (b.long ∙ sym (word-length m ks x long w)) b.are_bits in
      f (ones_free (subst (Word m ks) same (word-xors m ks (xors x (all_ones m)) x long v w)))
