-- The test passes exactly if some word of the set has the property for some M. Readings negated by a word of the set pass it exactly if they did before,
-- and the quick reading then has that word added.
use Rattle.std.specs.Prelude.{◌≡◌, refl, ◌↔◌, Bool, true, false, List, ℕ, zero, suc, ◌-◌, ◌*◌, ◌^◌, ◌≤◌, ◌<◌, length, ℤ}
use Rattle.std.proofs.Math.Path.{ap, sym}
use Rattle.std.proofs.Common.{ap₂, ◌∙◌, arith}
use borrow.Author.Tests.{lt-ltb, ltb-true}
use Rattle.words.specs.Bits.{xors}
use Rattle.words.specs.Kinds.{Word}
use Rattle.words.specs.TransformLaws.{length-xors, bits_xors}
use Rattle.words.proofs.InverseLaws.{word-length, word_bits, encoded-xors}
use Rattle.decoding.specs.Readings.{penalty, turns}
use Rattle.decoding.specs.Quick.{quick_word, quick_bits, quick_penalty}
use Rattle.decoding.specs.QuickLaws.{length_quick, bits_quick, length-quick_bits, encoded_quick, quick-word}
use Rattle.decoding.specs.TurnLaws.{length-turns, penalty-turns}
use Rattle.sure.specs.Sure.{largest, doubt, Sure, Inside, SurelyRight}
use Rattle.sure.specs.Test.{is_sure, passes, SomeSure}
use Rattle.sure.proofs.LargestLaws.{within_largest, largest_sure}
use Rattle.sure.proofs.TurnedLaws.{sure_turned, turns-twice}
use Rattle.sure.proofs.SureLaws.{surely-right, quick_sure}

not-below-zero : (M n d : ℕ) → n < M * d → 1 ≤ M
not-below-zero zero n d h = absurd (omega arith)
not-below-zero (suc M) n d h = omega arith

both_or_neither : (a b : Bool) → (a ≡ true → b ≡ true) → (b ≡ true → a ≡ true) → a ≡ b
both_or_neither true b f g = sym (f refl)
both_or_neither false true f g = g refl
both_or_neither false false f g = refl

module _ (r m : ℕ) (ks : List ℕ) (h : r ≤ m) (inside : Inside r m ks) where
  module _ (l : List ℤ) (long : length l ≡ 2 ^ m) where
    pub passes_sure : passes r m ks l ≡ true → Sure (largest l) r m l (quick_word m ks l)
    unfolding is_sure
    passes_sure e =
        let M = largest l in
        let below = ltb-true (doubt M l (quick_word m ks l)) (M * 2 ^ (m - r)) e in
        record {
          at_least_one = not-below-zero M (doubt M l (quick_word m ks l)) (2 ^ (m - r)) below;
          within = within_largest l;
          long = long;
          below = below;
        }

    pub passes_right : passes r m ks l ≡ true → SurelyRight (largest l) r m ks l (quick_word m ks l) (quick_bits m ks l)
    passes_right e = quick_sure (largest l) r m ks l h inside (passes_sure e)

    sure_passes : SomeSure r m ks l → passes r m ks l ≡ true
    unfolding is_sure
    sure_passes s =
        let w = s.is_word in
        let sure = largest_sure s.M r m l s.word (word-length m ks s.word inside.long w) s.sure in
        let M = largest l in
        let quick = (surely-right M r m ks l s.word h inside w sure).quick-word in
        lt-ltb (doubt M l (quick_word m ks l)) (M * 2 ^ (m - r)) (rw quick sure.below)

    pub passes_exactly : (passes r m ks l ≡ true) ↔ SomeSure r m ks l
    passes_exactly = (
      λ e. record { M = largest l; word = quick_word m ks l; is_word = quick-word m ks l inside.long inside.are_bits; sure = passes_sure e },
      sure_passes,
    )

  -- ---- readings negated by a word c of the set
  module _ (l : List ℤ) (long : length l ≡ 2 ^ m) (c : List ℕ) (w : Word m ks c) where
    long_word : length c ≡ length l
    long_word = word-length m ks c inside.long w ∙ sym long

    pub long_turned : length (turns c l) ≡ 2 ^ m
    long_turned = length-turns c l long_word ∙ long

    -- the quick reading's word, with c added
    added : Word m ks (xors (quick_word m ks l) c)
    added =
        let b = quick_bits m ks l in
        let e = length-quick_bits m ks l inside.long inside.are_bits in
        record {
          bits = xors b w.bits;
          long = length-xors b w.bits (e ∙ sym w.long) ∙ e;
          are_bits = bits_xors b w.bits;
          gives = encoded-xors m ks b w.bits inside.long (e ∙ sym w.long)
              ∙ ap₂ xors (encoded_quick m ks l inside.long inside.are_bits) w.gives;
        }

    module _ (e : passes r m ks l ≡ true) where
      sure_added : Sure (largest l) r m (turns c l) (xors (quick_word m ks l) c)
      sure_added =
          sure_turned (largest l) r m l (quick_word m ks l) c (length_quick m ks l) (long_word ∙ long) (bits_quick m ks l) (word_bits m ks c inside.long w)
          (passes_sure l long e)

      right_added : SurelyRight (largest l) r m ks (turns c l) (xors (quick_word m ks l) c) added.bits
      right_added = surely-right (largest l) r m ks (turns c l) (xors (quick_word m ks l) c) h inside added sure_added

      pub still_passes : passes r m ks (turns c l) ≡ true
      still_passes =
          (passes_exactly (turns c l) long_turned).1
          (record { M = largest l; word = xors (quick_word m ks l) c; is_word = added; sure = sure_added })

      pub quick_word-turned : quick_word m ks (turns c l) ≡ xors (quick_word m ks l) c
      quick_word-turned = right_added.quick-word

      pub quick_bits-turned : quick_bits m ks (turns c l) ≡ xors (quick_bits m ks l) w.bits
      unfolding added
      quick_bits-turned = right_added.quick_bits_lem

      pub quick_penalty-turned : quick_penalty m ks (turns c l) ≡ quick_penalty m ks l
      unfolding quick_penalty
      quick_penalty-turned =
          ap (penalty (turns c l)) quick_word-turned
          ∙ penalty-turns c l (quick_word m ks l) long_word (length_quick m ks l ∙ sym long) (word_bits m ks c inside.long w) (bits_quick m ks l)

  pub passes-turned : (l : List ℤ) → length l ≡ 2 ^ m → (c : List ℕ) → Word m ks c → passes r m ks (turns c l) ≡ passes r m ks l
  passes-turned l long c w =
      let twice = turns-twice c l (long_word l long c w) in
      both_or_neither (passes r m ks (turns c l)) (passes r m ks l)
      (λ e. ap (passes r m ks) (sym twice) ∙ still_passes (turns c l) (long_turned l long c w) c w e)
      (still_passes l long c w)
