-- The loop of `cross`, and the transform by halves that are lent one after the other.
use Rattle.std.specs.Prelude.{◌≡◌, refl, List, ◌++◌, ℕ, zero, suc, ◌+◌, ◌-◌, ◌^◌, ◌≤◌, ◌<◌, ℤ, pos, nat_abs, ◌+ℤ◌, ◌-ℤ◌, length, get_or, set, take, drop}
use Rattle.std.proofs.Common.{ap, ap₂, sym, ◌∙◌, arith, add-one, length-drop, length-append, take-append-drop, drop_of_length-le, take_at, drop_at}
use Rattle.std.proofs.Common.{length-take-le, get_or-take, get_or-drop}
use Rattle.std.proofs.lemmas.List.{set-append_left, take-set-le, drop-set-add}
use borrow.Rule.Slice.PartMut.{mid_of, put_mid}
use Rattle.numbers.specs.Lent.{lent_to, back_to, lent_from, back_from}
use Rattle.numbers.specs.Front.{front, front-suc, front-after, front-done}
use Rattle.numbers.specs.Halves.{length_first_half, length_second_half, equal_halves, get_or-first, get_or-second}
use Rattle.decoding.specs.Readings.{turn, sizes}
use Rattle.decoding.specs.StepLaws.{entry-sizes, sizes-append}
use Rattle.hadamard.specs.Hadamard.{combined, hadamard}
use Rattle.hadamard.proofs.HadamardLaws.{get_or-combined, length-combined, sizes-combined}
use Rattle.first_order.specs.Work.{crossed}

-- a store after the first n entries
pub set-second : {A : Type 0} (p q : List A) (n j : ℕ) (a : A) → length p ≡ n → set (p ++ q) (n + j) a ≡ p ++ set q j a
set-second p q n j a e =
    sym (take-append-drop n (set (p ++ q) (n + j) a))
    ∙ ap₂ ◌++◌ (take-set-le n (p ++ q) (n + j) a (omega arith) ∙ take_at p q n e)
    (drop-set-add n (p ++ q) j a ∙ ap (λ l. set l j a) (drop_at p q n e))

-- the transforms of the sums and of the differences are the transform
by_halves_lem : (m : ℕ) (d : List ℤ) (h : ℕ) → h ≡ 2 ^ (m - 1) → m ≡ suc (m - 1) → (a b : List ℤ)
    → a ≡ hadamard (m - 1) (combined 0 (take h d) (drop h d)) → b ≡ hadamard (m - 1) (combined 1 (take h d) (drop h d)) → a ++ b ≡ hadamard m d
unfolding hadamard
by_halves_lem zero d h e f a b ea eb = absurd (omega arith)
by_halves_lem (suc m) d h e f a b ea eb =
    let q : suc m - 1 ≡ m = omega arith in
    let p : h ≡ 2 ^ m = e ∙ ap (λ (k : ℕ). 2 ^ k) q in
    ap₂ ◌++◌ ea eb ∙ rw (q, p) refl

-- for two entries one step is the transform
pub pair-crossed : (d : List ℤ) → crossed 1 d ≡ hadamard 1 d
unfolding hadamard
pair-crossed d = refl

module _ (d : List ℤ) (h : ℕ) (long : length d ≡ h + h) where
  abbrev part : ℕ → List ℤ
  part e = combined e (take h d) (drop h d)

  length_part : (e : ℕ) → length (part e) ≡ h
  length_part e = length-combined e (take h d) (drop h d) (equal_halves h d long) ∙ length_first_half h d long

  -- after j passes
  abbrev pub crossing : ℕ → List ℤ
  crossing j = front (take h d) (part 0) j ++ front (drop h d) (part 1) j

  pub crossing-none : d ≡ crossing 0
  crossing-none = sym (take-append-drop h d)

  pub crossing-all : crossing h ≡ crossed h d
  crossing-all =
      ap₂ ◌++◌
      (front-done (take h d) (part 0) h (omega (arith, length_first_half h d long)) (drop_of_length-le (part 0) {i = h} (omega (arith, length_part 0))))
      (front-done (drop h d) (part 1) h (omega (arith, length_second_half h d long)) (drop_of_length-le (part 1) {i = h} (omega (arith, length_part 1))))

  length_front : (x y : List ℤ) (j : ℕ) → length x ≡ h → length y ≡ h → j ≤ h → length (front x y j) ≡ h
  length_front x y j ex ey k = length-append (take j y) (drop j x) ∙ omega (arith, length-take-le j y (omega arith), length-drop j x)

  pub pair_small : (j : ℕ) → j < h → nat_abs (get_or d j (pos 0)) + nat_abs (get_or d (h + j) (pos 0)) ≤ sizes d
  pair_small j k =
      let e : sizes d ≡ sizes (take h d) + sizes (drop h d) = sym (ap sizes (take-append-drop h d)) ∙ sizes-append (take h d) (drop h d) in
      rw (sym (get_or-take h d j (pos 0) k), sym (get_or-drop h d j (pos 0)), e) (omega (arith, entry-sizes (take h d) j, entry-sizes (drop h d) j))

  module _ (s : List ℤ) (j : ℕ) (more : j < h) (is : s ≡ crossing j) where
    first_long : length (front (take h d) (part 0) j) ≡ h
    first_long = length_front (take h d) (part 0) j (length_first_half h d long) (length_part 0) (omega arith)

    -- what a pass reads is unchanged
    pub read_first : get_or s j (pos 0) ≡ get_or d j (pos 0)
    read_first =
        ap (λ (l : List ℤ). get_or l j (pos 0)) is
        ∙ get_or-first (front (take h d) (part 0) j) (front (drop h d) (part 1) j) h first_long j (pos 0) more
        ∙ front-after (take h d) (part 0) j j (pos 0) (omega (arith, length_first_half h d long)) (omega (arith, length_part 0)) (omega arith)
        ∙ get_or-take h d j (pos 0) more

    pub read-second : get_or s (h + j) (pos 0) ≡ get_or d (h + j) (pos 0)
    read-second =
        ap (λ (l : List ℤ). get_or l (h + j) (pos 0)) is
        ∙ get_or-second (front (take h d) (part 0) j) (front (drop h d) (part 1) j) h first_long j (pos 0)
        ∙ front-after (drop h d) (part 1) j j (pos 0) (omega (arith, length_second_half h d long)) (omega (arith, length_part 1)) (omega arith)
        ∙ get_or-drop h d j (pos 0)

    entry_at : (e : ℕ) → get_or (part e) j (pos 0) ≡ get_or d j (pos 0) +ℤ turn e (get_or d (h + j) (pos 0))
    entry_at e =
        get_or-combined e (take h d) (drop h d) j (equal_halves h d long)
        ∙ ap₂ (λ (x y : ℤ). x +ℤ turn e y) (get_or-take h d j (pos 0) more) (get_or-drop h d j (pos 0))

    -- what a pass stores
    pub pass_stores : (a b : ℤ) → a ≡ get_or d j (pos 0) +ℤ get_or d (h + j) (pos 0) → b ≡ get_or d j (pos 0) -ℤ get_or d (h + j) (pos 0)
        → set (set s j a) (h + j) b ≡ crossing (j + 1)
    pass_stores a b ea eb =
        let x = front (take h d) (part 0) j in
        let y = front (drop h d) (part 1) j in
        let p : a ≡ get_or (part 0) j (pos 0) = ea ∙ sym (entry_at 0) in
        let q : b ≡ get_or (part 1) j (pos 0) = eb ∙ sym (entry_at 1) in
        let first : set x j a ≡ front (take h d) (part 0) (suc j) =
        ap (set x j) p ∙ front-suc (take h d) (part 0) j (pos 0) (omega (arith, length_first_half h d long)) (omega (arith, length_part 0)) in
        let second : set y j b ≡ front (drop h d) (part 1) (suc j) =
        ap (set y j) q ∙ front-suc (drop h d) (part 1) j (pos 0) (omega (arith, length_second_half h d long)) (omega (arith, length_part 1)) in
        let long_first : length (front (take h d) (part 0) (suc j)) ≡ h =
        length_front (take h d) (part 0) (suc j) (length_first_half h d long) (length_part 0) (omega arith) in
        rw (add-one, is)
        (ap (λ (l : List ℤ). set l (h + j) b) (set-append_left x y j a (omega (arith, first_long)) ∙ ap (λ (l : List ℤ). l ++ y) first)
        ∙ set-second (front (take h d) (part 0) (suc j)) y h j b long_first
        ∙ ap (λ (l : List ℤ). front (take h d) (part 0) (suc j) ++ l) second)

  -- ---- the halves of the result
  first-crossed : take h (crossed h d) ≡ part 0
  first-crossed = take_at (part 0) (part 1) h (length_part 0)

  second-crossed : drop h (crossed h d) ≡ part 1
  second-crossed = drop_at (part 0) (part 1) h (length_part 0)

  part_small : (e : ℕ) → sizes (part e) ≤ sizes d
  part_small e =
      let whole : sizes (take h d) + sizes (drop h d) ≡ sizes d = sym (sizes-append (take h d) (drop h d)) ∙ ap sizes (take-append-drop h d) in
      omega (arith, sizes-combined e (take h d) (drop h d))

  -- ---- lent one after the other: r is what `cross` left, a and b are the halves as they come back
  module _ (r : List ℤ) (is : r ≡ crossed h d) where
    abbrev pub first : List ℤ
    first = mid_of 0 (h - 0) r

    first-lent : first ≡ part 0
    first-lent = lent_to h r ∙ ap (take h) is ∙ first-crossed

    pub first_asked : (n : ℕ) → sizes d < n → (length first ≡ h) × (sizes first < n)
    first_asked n k = (ap length first-lent ∙ length_part 0, omega (arith, ap sizes first-lent, part_small 0))

    module _ (a : List ℤ) (kept : length a ≡ length first) where
      first_long_back : length a ≡ h
      first_long_back = kept ∙ ap length first-lent ∙ length_part 0

      -- what `row` is at that point
      abbrev pub middle : List ℤ
      middle = put_mid 0 (h - 0) r a

      middle-is : middle ≡ a ++ part 1
      middle-is = back_to h r a ∙ ap (λ (l : List ℤ). a ++ l) (ap (drop h) is ∙ second-crossed)

      pub length-middle : length middle ≡ h + h
      length-middle = ap length middle-is ∙ length-append a (part 1) ∙ omega (arith, length_part 1, first_long_back)

      abbrev pub second : List ℤ
      second = mid_of h (length middle - h) middle

      second-lent : second ≡ part 1
      second-lent = lent_from h middle ∙ ap (drop h) middle-is ∙ drop_at a (part 1) h first_long_back

      pub second_asked : (n : ℕ) → sizes d < n → (length second ≡ h) × (sizes second < n)
      second_asked n k = (ap length second-lent ∙ length_part 1, omega (arith, ap sizes second-lent, part_small 1))

      module _ (b : List ℤ) (kept-too : length b ≡ length second) where
        abbrev pub last : List ℤ
        last = put_mid h (length middle - h) middle b

        last-is : last ≡ a ++ b
        last-is = back_from h middle b ∙ ap (λ (l : List ℤ). l ++ b) (ap (take h) middle-is ∙ take_at a (part 1) h first_long_back)

        pub length_last : length last ≡ length d
        length_last =
            let lb : length b ≡ h = kept-too ∙ ap length second-lent ∙ length_part 1 in
            ap length last-is ∙ length-append a b ∙ omega (arith, first_long_back, long)

        -- the transforms of both are the transform
        pub both_transformed : (m : ℕ) → h ≡ 2 ^ (m - 1) → m ≡ suc (m - 1) → a ≡ hadamard (m - 1) first → b ≡ hadamard (m - 1) second → last ≡ hadamard m d
        both_transformed m e f ea eb =
            last-is ∙ by_halves_lem m d h e f a b (ea ∙ ap (hadamard (m - 1)) first-lent) (eb ∙ ap (hadamard (m - 1)) second-lent)
