-- Laws of sixteen bits as two numbers: three layers on each at once, the fourth between them. And laws of a loop that puts the words of a list's blocks
-- into a row of its own.
use Rattle.std.specs.Prelude.{◌≡◌, refl, List, [], ◌∷◌, ◌++◌, ℕ, zero, suc, ◌+◌, ◌*◌, ◌-◌, ◌^◌, ◌/◌, ◌%◌, ◌≤◌, ◌<◌, length, take, drop}
use Rattle.std.proofs.Common.{ap, ap₂, sym, ◌∙◌, subst, append-nil, append_assoc, arith, length-drop, length-append, drop_of_length-le, take_at}
use Rattle.std.proofs.Common.{drop_at, drop-drop, take_all, length-take-le}
use Rattle.std.specs.Int.Bits.{bit_xor}
use Rattle.std.proofs.lemmas.Nat.{xor_shr, xor_mod}
use borrow.Rule.Slice.PartMut.{mid_of, put_mid}
use Rattle.numbers.specs.Lent.{lent_from, back_from}
use Rattle.numbers.specs.Sums.{tabulate}
use Rattle.numbers.specs.SumsLaws.{length-tabulate}
use Rattle.words.specs.Bits.{Bits, xors}
use Rattle.words.specs.Word.{transform}
use Rattle.words.specs.TransformLaws.{bits_transform, bits_take, bits_drop}
use Rattle.bit_rows.specs.Layers.{blocks}
use Rattle.bit_rows.specs.BlockLaws.{Keeps, blocks_end, blocks_more}
use Rattle.bit_rows.proofs.LayerLaws.{joined_words}
use Rattle.bit_rows.specs.Eight.{unpacked}
use Rattle.bit_rows.specs.EightLaws.{three_layers, eight_word}

-- ---- numbers with a bit in each byte are added byte by byte
xor_bits : (a b : ℕ) → a < 2 → b < 2 → bit_xor a b ≡ (a + b) % 2
xor_bits zero zero h k = refl
xor_bits zero (suc zero) h k = refl
xor_bits (suc zero) zero h k = refl
xor_bits (suc zero) (suc zero) h k = refl
xor_bits zero (suc (suc b)) h k = absurd (omega arith)
xor_bits (suc zero) (suc (suc b)) h k = absurd (omega arith)
xor_bits (suc (suc a)) b h k = absurd (omega arith)

byte_xor : (k x y : ℕ) → x / 2 ^ k % 256 < 2 → y / 2 ^ k % 256 < 2 → bit_xor x y / 2 ^ k % 256 ≡ (x / 2 ^ k % 256 + y / 2 ^ k % 256) % 2
byte_xor k x y h g =
    ap (λ (n : ℕ). n % 256) (xor_shr x y k) ∙ xor_mod (x / 2 ^ k) (y / 2 ^ k) 8 ∙ xor_bits (x / 2 ^ k % 256) (y / 2 ^ k % 256) h g

unpacked_xor : (x y : ℕ) → Bits (unpacked x) → Bits (unpacked y) → unpacked (bit_xor x y) ≡ xors (unpacked x) (unpacked y)
unfolding unpacked tabulate
unpacked_xor x y h g =
    ap₂ ◌∷◌ (byte_xor 0 x y (h 0) (g 0))
    (ap₂ ◌∷◌ (byte_xor 8 x y (h 1) (g 1))
    (ap₂ ◌∷◌ (byte_xor 16 x y (h 2) (g 2))
    (ap₂ ◌∷◌ (byte_xor 24 x y (h 3) (g 3))
    (ap₂ ◌∷◌ (byte_xor 32 x y (h 4) (g 4))
    (ap₂ ◌∷◌ (byte_xor 40 x y (h 5) (g 5))
    (ap₂ ◌∷◌ (byte_xor 48 x y (h 6) (g 6))
    (ap₂ ◌∷◌ (byte_xor 56 x y (h 7) (g 7)) refl)))))))

length-unpacked : (x : ℕ) → length (unpacked x) ≡ 8
unfolding unpacked
length-unpacked x = length-tabulate (λ i. x / 256 ^ i % 256) 8

-- ---- eight bits, put into a row of as many
pub eight_put : (m : ℕ) (w row : List ℕ) → m ≡ 3 → length w ≡ 2 ^ m → length row ≡ 2 ^ m → Bits w → three_layers w ++ drop 8 row ≡ transform m w
eight_put m w row e long same bits =
    let power : 2 ^ m ≡ 8 = ap (λ (n : ℕ). 2 ^ n) e in
    ap₂ ◌++◌ (eight_word w (omega arith) bits ∙ ap (transform 3) (take_all 8 w (omega arith))) (drop_of_length-le row {i = 8} (omega arith))
    ∙ append-nil (transform 3 w) ∙ ap (λ (n : ℕ). transform n w) (sym e)

-- ---- sixteen bits
module _ (w : List ℕ) (long : 16 ≤ length w) (bits : Bits w) (x y : ℕ) (first : unpacked x ≡ three_layers w)
    (second : unpacked y ≡ three_layers (drop 8 w)) where
  abbrev a : List ℕ
  a = transform 3 (take 8 w)

  abbrev b : List ℕ
  b = transform 3 (take 8 (drop 8 w))

  is-a : unpacked x ≡ a
  is-a = first ∙ eight_word w (omega arith) bits

  is_b : unpacked y ≡ b
  is_b = second ∙ eight_word (drop 8 w) (simp length-drop (omega arith)) (bits_drop 8 w bits)

  bits_x : Bits (unpacked x)
  bits_x = subst Bits (sym is-a) (bits_transform 3 (take 8 w) (bits_take 8 w bits))

  bits_y : Bits (unpacked y)
  bits_y = subst Bits (sym is_b) (bits_transform 3 (take 8 (drop 8 w)) (bits_take 8 (drop 8 w) (bits_drop 8 w bits)))

  word : unpacked (bit_xor x y) ++ unpacked y ≡ transform 4 (take 16 w)
  word = ap₂ ◌++◌ (unpacked_xor x y bits_x bits_y ∙ ap₂ xors is-a is_b) is_b ∙ sym (joined_words 3 w long)

  -- put in front of a row, the second eight by a part that is lent from 8 on
  pub sixteen_put : (row mid last : List ℕ) → 16 ≤ length row → mid ≡ unpacked (bit_xor x y) ++ drop 8 row
      → last ≡ unpacked y ++ drop 8 (mid_of 8 (length mid - 8) mid)
      → put_mid 8 (length mid - 8) mid last ≡ transform 4 (take 16 w) ++ drop 16 row
  sixteen_put row mid last room e f =
      let front = unpacked (bit_xor x y) in
      let lf : length front ≡ 8 = length-unpacked (bit_xor x y) in
      let kept : take 8 mid ≡ front = ap (take 8) e ∙ take_at front (drop 8 row) 8 lf in
      let rest : mid_of 8 (length mid - 8) mid ≡ drop 8 row = lent_from 8 mid ∙ ap (drop 8) e ∙ drop_at front (drop 8 row) 8 lf in
      back_from 8 mid last
      ∙ ap₂ ◌++◌ kept (f ∙ ap (λ (l : List ℕ). unpacked y ++ l) (ap (drop 8) rest ∙ drop-drop 8 8 row))
      ∙ sym (append_assoc front (unpacked y) (drop 16 row))
      ∙ ap (λ (l : List ℕ). l ++ drop 16 row) word

-- ---- a loop that puts f of one block of x into a row per pass, from the front; the first k blocks are done
pub record Putting (f : List ℕ → List ℕ) (x row : List ℕ) (k : ℕ) : Type 0 where
  pub within : 16 * k ≤ length x
  pub same : length row ≡ length x
  pub is : take (16 * k) row ++ blocks f 16 (drop (16 * k) x) ≡ blocks f 16 x

module _ (f : List ℕ → List ℕ) (x : List ℕ) where
  pub first_put : (row : List ℕ) → length row ≡ length x → Putting f x row 0
  first_put row e = record { within = omega arith; same = e; is = refl }

  module _ (row : List ℕ) (k : ℕ) (p : Putting f x row k) where
    abbrev s : ℕ
    s = 16 * k

    pub last_put : length x % 16 ≡ 0 → length x / 16 ≤ k → row ≡ blocks f 16 x
    last_put e h =
        let all : length x ≤ s = omega arith in
        sym (take_all s row (omega (arith, p.same)))
        ∙ sym (append-nil (take s row))
        ∙ ap (λ (l : List ℕ). take s row ++ l) (sym (blocks_end f 16 [] (omega arith)))
        ∙ ap (λ (l : List ℕ). take s row ++ blocks f 16 l) (sym (drop_of_length-le x {i = s} all))
        ∙ p.is

    module _ (left : k < length x / 16) where
      more : 16 ≤ length x - s
      more = omega arith

      pub put_asked : Bits x → (16 ≤ length (mid_of s (length x - s) x)) × (16 ≤ length (mid_of s (length row - s) row)) × Bits (mid_of s (length x - s) x)
      put_asked bits = (
        rw (lent_from s x) (simp length-drop more),
        rw (lent_from s row) (simp length-drop (omega (arith, p.same, more))),
        subst Bits (sym (lent_from s x)) (bits_drop s x bits),
      )

      pub next_put : Keeps f 16 → (out : List ℕ) → out ≡ f (take 16 (mid_of s (length x - s) x)) ++ drop 16 (mid_of s (length row - s) row)
          → Putting f x (put_mid s (length row - s) row out) (k + 1)
      next_put keeps out e =
          let block = take 16 (drop s x) in
          let done = f block in
          let rest = drop 16 (drop s row) in
          let next : 16 * (k + 1) ≡ s + 16 = omega arith in
          let ld : length done ≡ 16 = keeps.long block (length-take-le 16 (drop s x) (simp length-drop more)) in
          let ls : length (take s row) ≡ s = length-take-le s row (omega (arith, p.same, p.within)) in
          let lb : length (take s row ++ done) ≡ s + 16 = length-append (take s row) done ∙ omega (arith, ld, ls) in
          let lr : length rest ≡ length row - s - 16 = simp length-drop in
          let put : put_mid s (length row - s) row out ≡ (take s row ++ done) ++ rest =
          back_from s row out
          ∙ ap (λ (l : List ℕ). take s row ++ l) (e ∙ ap₂ (λ (k l : List ℕ). f (take 16 k) ++ drop 16 l) (lent_from s x) (lent_from s row))
          ∙ sym (append_assoc (take s row) done rest) in
          subst (λ (l : List ℕ). Putting f x l (k + 1)) (sym put) (record {
            within = omega (arith, more);
            same = length-append (take s row ++ done) rest ∙ omega (arith, lb, lr, p.same, more);
            is =
                rw (next, take_at (take s row ++ done) rest (s + 16) lb, ← (drop-drop 16 s x))
                (append_assoc (take s row) done (blocks f 16 (drop 16 (drop s x)))
                ∙ ap (λ (l : List ℕ). take s row ++ l) (sym (blocks_more f 16 (drop s x) (omega arith) (simp length-drop more)))
                ∙ p.is);
          })
