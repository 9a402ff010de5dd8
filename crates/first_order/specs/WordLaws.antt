-- The loops that write the word and its information bits, by the place and the sign, and the one that adds up the sizes.
use Rattle.std.specs.Prelude.{◌≡◌, List, [], ◌∷◌, ◌++◌, map, ℕ, zero, suc, ◌+◌, ◌-◌, ◌^◌, ◌%◌, ◌≤◌, ◌<◌, ℤ, pos, nat_abs, length, get_or, set, take, drop}
use Rattle.std.proofs.Common.{ap, ap₂, sym, ◌∙◌, ⊎_elim, append_assoc, arith, add-one, length-drop, length-append, take-append-drop, pow_mono, take_at}
use Rattle.std.proofs.Common.{take_all, drop-drop, length-take-le}
use Rattle.std.proofs.Math.Nat.{two-pow-succ}
use Rattle.std.specs.Int.Count as Count
use Rattle.std.proofs.lemmas.List.{length-map}
use Rattle.std.proofs.Math.ListN.{get_or-map, get_or-eq_default}
use Rattle.numbers.specs.Choice.{lt_or_le}
use Rattle.numbers.specs.Front.{front, front-suc}
use Rattle.numbers.specs.Halves.{get_or-first}
use Rattle.numbers.specs.Sums.{tabulate}
use Rattle.numbers.specs.SumsLaws.{get_d_tabulate, length-tabulate}
use Rattle.words.specs.Bits.{Bits, digit}
use Rattle.words.specs.BitLaws.{ones-counted}
use Rattle.decoding.specs.Readings.{sizes}
use Rattle.hadamard.specs.Hadamard.{common, first_order, bits_of}
use Rattle.hadamard.proofs.FirstOrderLaws.{word-doubled}
use Rattle.hadamard.proofs.EncodedLaws.{bits_of_at, bits_of-last, bits_of_are, sum-first_order}
use Rattle.first_order.specs.Work.{doubled}
use Rattle.first_order.specs.CrossLaws.{set-second}

-- ---- the word: the sign, doubled by each digit of the place
pub word-start : (x : List ℕ) (s e : ℕ) → 0 < length x → e < 2 → take 1 (set x 0 e) ≡ first_order 0 s e
unfolding first_order common tabulate
word-start [] s e h k = absurd (omega arith)
word-start (a ∷ x) s e h k =
    let is : e ≡ (0 + e) % 2 = omega arith in
    ap (λ (b : ℕ). b ∷ []) is

pub bits_first_order : (m s e : ℕ) → Bits (first_order m s e)
unfolding first_order
bits_first_order m s e i =
    let f : ℕ → ℕ = λ j. (common m s j + e) % 2 in
    ⊎_elim
    (λ h. rw (get_d_tabulate f (2 ^ m) i 0 h) (omega arith))
    (λ (h : 2 ^ m ≤ i).
    rw (get_or-eq_default (tabulate f (2 ^ m)) 0 {n = i} (omega (arith, length-tabulate f (2 ^ m)))) (omega arith))
    (lt_or_le i (2 ^ m))

pub next_word : (p s e h : ℕ) (x y : List ℕ) → h + h ≤ length x → take h x ≡ first_order p s e → y ≡ doubled h (digit p s) x
    → take (h + h) y ≡ first_order (suc p) s e
next_word p s e h x y long begins doubles =
    let plus : ℕ → ℕ = λ a. (a + digit p s) % 2 in
    let a = take h x in
    let b = map plus a in
    let both : length (a ++ b) ≡ h + h = length-append a b ∙ omega (arith, length-take-le h x (omega arith), length-map a plus) in
    ap (take (h + h)) doubles ∙ take_at (a ++ b) (drop (h + h) x) (h + h) both
    ∙ ap (λ (l : List ℕ). l ++ map plus l) begins ∙ sym (word-doubled p s e)

-- the word is not at its end yet
pub record Doubles (p h n : ℕ) : Type 0 where
  pub next : h + h ≡ 2 ^ suc p
  pub room : h + h ≤ n

pub doubles : (p m h n : ℕ) → p < m → h ≡ 2 ^ p → n ≡ 2 ^ m → Doubles p h n
doubles p m h n more is long =
    let up : 2 ^ suc p ≤ 2 ^ m = pow_mono more in
    let next : h + h ≡ 2 ^ suc p = omega (arith, two-pow-succ p) in
    record { next = next; room = omega arith }

pub doubles_small : (p m h n : ℕ) → p < m → m ≤ 8 → h ≡ 2 ^ p → n ≡ 2 ^ m → h + h ≤ 256
doubles_small p m h n more most is long =
    let top : 2 ^ m ≤ 256 = pow_mono most in
    omega (arith, (doubles p m h n more is long).room)

-- the loop of `double`, after j passes
abbrev pub doubling : List ℕ → ℕ → ℕ → ℕ → List ℕ
doubling d h b j = take h d ++ front (drop h d) (map (λ a. (a + b) % 2) (take h d)) j

module _ (d : List ℕ) (h b : ℕ) (long : h + h ≤ length d) where
  abbrev plus : ℕ → ℕ
  plus a = (a + b) % 2

  abbrev again : List ℕ
  again = map plus (take h d)

  length_half : length (take h d) ≡ h
  length_half = length-take-le h d (omega arith)

  length-again : length again ≡ h
  length-again = length-map (take h d) plus ∙ length_half

  pub doubling-none : d ≡ doubling d h b 0
  doubling-none = sym (take-append-drop h d)

  pub doubling-all : doubling d h b h ≡ doubled h b d
  doubling-all =
      ap₂ (λ (x y : List ℕ). take h d ++ (x ++ y)) (take_all h again (omega (arith, length-again))) (drop-drop h h d)
      ∙ sym (append_assoc (take h d) again (drop (h + h) d))

  module _ (x : List ℕ) (j : ℕ) (more : j < h) (is : x ≡ doubling d h b j) where
    pub read_again : get_or x j 0 ≡ get_or (take h d) j 0
    read_again = ap (λ (l : List ℕ). get_or l j 0) is ∙ get_or-first (take h d) (front (drop h d) again j) h length_half j 0 more

    pub stored-again : set x (h + j) ((get_or x j 0 + b) % 2) ≡ doubling d h b (j + 1)
    stored-again =
        let tail = front (drop h d) again j in
        let v : (get_or x j 0 + b) % 2 ≡ get_or again j (plus 0) = ap plus read_again ∙ sym (get_or-map plus (take h d) j 0) in
        let room : j < length (drop h d) = simp length-drop (omega arith) in
        rw add-one
        (ap₂ (λ (l : List ℕ) (a : ℕ). set l (h + j) a) is v
        ∙ set-second (take h d) tail h j (get_or again j (plus 0)) length_half
        ∙ ap (λ (l : List ℕ). take h d ++ l) (front-suc (drop h d) again j (plus 0) room (omega (arith, length-again))))

-- ---- the word's bits, as the code computes them
module _ (m s e : ℕ) where
  pub length-bits_of : length (bits_of m s e) ≡ m + 1
  length-bits_of = (bits_of_are m s e).0 ∙ sum-first_order m ∙ omega arith

  pub bit_at : (i : ℕ) → i < m → get_or (bits_of m s e) i 0 ≡ digit (m - 1 - i) s
  bit_at i h =
      let p : m - suc i ≡ m - 1 - i = omega arith in
      bits_of_at m s e i h ∙ ap (λ (q : ℕ). digit q s) p

  pub last_bit_lem : s < 2 ^ m → (Count.ones s % 2 + e) % 2 ≡ get_or (bits_of m s e) m 0
  last_bit_lem h = omega (arith, ones-counted m s h, bits_of-last m s e)

-- ---- the sum of sizes, with one more reading
pub sizes-more : (l : List ℤ) (j : ℕ) → j < length l → sizes (take (suc j) l) ≡ sizes (take j l) + nat_abs (get_or l j (pos 0))
unfolding sizes
sizes-more [] j h = absurd (omega arith)
sizes-more (x ∷ l) zero h = omega arith
sizes-more (x ∷ l) (suc j) h = omega (arith, sizes-more l j (omega arith))
