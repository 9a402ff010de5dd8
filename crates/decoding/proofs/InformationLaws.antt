-- Laws of information indices along the hard word of a row: what speaks in the row speaks at each index for the word's bit, by no less than the
-- least size in it; what is dropped stays dropped; so where each other extension is dropped at entry, the walk goes along the hard word, with two
-- visits for each index, and these can be counted before the rest.
use Rattle.std.specs.Prelude.{◌≡◌, false, cond, ℤ, pos, negsuc, nat_abs, ltb, get_or, take, drop}
use Rattle.std.proofs.Math.Path.{refl, ap, subst}
use Rattle.std.proofs.Common.{ap₂, sym, ◌∙◌, ⊎_elim, arith, suc-ne-zero, le_of_lt, length-append, take-append-drop, length-take-le, take_at, drop_at, take_all}
use Rattle.std.proofs.Common.{take-take, get_or-take, drop-cons, pow_pos, lt-ltb, le-ltb, le-leb, leb-true, ltb-true, ltb-false}
use Rattle.std.proofs.Math.Bool.{true}
use Rattle.std.proofs.lemmas.Bool.{false≢true}
use mathlib.Core.List.{List, [], ◌∷◌, ◌++◌, append-nil, map, map-append}
use Prim.Native.Nat.{ℕ, zero, suc, ◌+◌, ◌-◌, ◌^◌, ◌≤◌, ◌<◌}
use Rattle.std.proofs.Math.Nat.{suc_inj, add-zero, two-pow-succ}
use Rattle.std.proofs.Math.ListN.{length}
use Rattle.std.proofs.lemmas.List.{length-map, take-append-le}
use Rattle.std.proofs.Math.Seq.{take-append-add, append_snoc}
use Rattle.numbers.specs.Choice.{cond_by, cond_two, lt_or_le}
use Rattle.numbers.specs.Halves.{length-first, length-second, get_or-first, get_or-second}
use Rattle.words.specs.Bits.{Bits, xors}
use Rattle.words.specs.Word.{transform}
use Rattle.words.specs.TransformLaws.{length-transform, bits_transform, transform-xors, transform-twice}
use Rattle.decoding.specs.Readings.{loss, penalty}
use Rattle.decoding.specs.Quick.{lowers, uppers, lower_row, upper_row, hard}
use Rattle.decoding.specs.StepLaws.{size-lower, length-lowers, long_lower_row, long_upper_row}
use Rattle.decoding.specs.SignLaws.{AtLeast, at_least_take, at_least_drop, at_least_append, row_steps, bits_signs}
use Rattle.decoding.specs.Walk.{value, added_by, path_penalty, Full, Held, none, one, two, State, dropped, hold, visited, extend, walk}
use Rattle.decoding.specs.PathLaws.{loss-hard, added_append, path_full, path_rises}
use Rattle.decoding.specs.OfferLaws.{offer, offers, Sorted}
use Rattle.decoding.proofs.OfferLaws.{by_penalties, sorted_offer}
use Rattle.decoding.proofs.WalkLaws.{fulls, walk-offers}
use Rattle.decoding.specs.Allowance.{Limited, out, and_then, extend_within, walk_within}
use Rattle.decoding.specs.AllowanceLaws.{walk_visits, seen, seen_out, walk_within_lem}
use Rattle.decoding.specs.Blocks.{block_row, Starts, hard_row, visited_by}
use Rattle.decoding.specs.BlockLaws.{value-block, length-block, block-penalty}
use Rattle.decoding.specs.InformationLaws.{Speaks, infos, Along}

-- ---- the choices whose word is the signs
pub length-hard_row : (t : ℕ) (r : List ℤ) → length r ≡ 2 ^ t → length (hard_row t r) ≡ 2 ^ t
length-hard_row t r e = length-transform t (map hard r) (length-map r hard ∙ e)

pub bits_hard_row : (t : ℕ) (r : List ℤ) → Bits (hard_row t r)
bits_hard_row t r = bits_transform t (map hard r) (bits_signs r)

-- by halves
record HardHalves (c t : ℕ) (r : List ℤ) : Type 0 where
  low : AtLeast c (lower_row (2 ^ t) r)
  high : AtLeast c (upper_row (2 ^ t) r (transform t (hard_row t (lower_row (2 ^ t) r))))
  halves : hard_row (suc t) r
      ≡ hard_row t (lower_row (2 ^ t) r) ++ hard_row t (upper_row (2 ^ t) r (transform t (hard_row t (lower_row (2 ^ t) r))))

hard_halves : (c t : ℕ) (r : List ℤ) → 0 < c → length r ≡ 2 ^ suc t → AtLeast c r → HardHalves c t r
unfolding transform
hard_halves c t r o e a =
    let n = 2 ^ t in
    let x = take n r in
    let y = drop n r in
    let p : List ℕ = map hard x in
    let q : List ℕ = map hard y in
    let even : length x ≡ length y = length-first t r e ∙ sym (length-second t r e) in
    let long_p : length p ≡ n = length-map x hard ∙ length-first t r e in
    let long_q : length q ≡ n = length-map y hard ∙ length-second t r e in
    let s = row_steps c x y o even (at_least_take c n r a) (at_least_drop c n r a) in
    let below_word : transform t (hard_row t (lowers x y)) ≡ xors p q =
    transform-twice t (map hard (lowers x y)) (length-map (lowers x y) hard ∙ length-lowers x y even ∙ length-first t r e) (bits_signs (lowers x y))
    ∙ s.lowers_signs in
    let whole : map hard r ≡ p ++ q = ap (map hard) (sym (take-append-drop n r)) ∙ map-append hard x y in
    let cut : transform (suc t) (map hard r) ≡ xors (transform t p) (transform t q) ++ transform t q =
    rw (whole, take_at p q n long_p, drop_at p q n long_p) in
    let first : xors (transform t p) (transform t q) ≡ hard_row t (lowers x y) =
    sym (transform-xors t p q long_p long_q) ∙ ap (transform t) (sym s.lowers_signs) in
    let second : transform t q ≡ hard_row t (uppers x y (transform t (hard_row t (lowers x y)))) =
    ap (transform t) (sym s.uppers_signs) ∙ ap (λ (w : List ℕ). hard_row t (uppers x y w)) (sym below_word) in
    record {
      low = s.lowers-size;
      high = subst (λ (w : List ℕ). AtLeast c (uppers x y w)) (sym below_word) s.uppers-size;
      halves = cut ∙ ap₂ ◌++◌ first second;
    }

pub hard-row : (c t : ℕ) (r : List ℤ) (j : ℕ) → 0 < c → length r ≡ 2 ^ t → AtLeast c r → j < 2 ^ t
    → Speaks c (get_or (hard_row t r) j 0) (value t r (take j (hard_row t r)))
unfolding value transform
hard-row c zero [] j o e a h = absurd (omega arith)
hard-row c zero (x ∷ []) zero o e a h = record { sign = refl; size = a.0 }
hard-row c zero (x ∷ []) (suc j) o e a h = absurd (omega arith)
hard-row c zero (x ∷ y ∷ r) j o e a h = absurd (omega arith)
hard-row c (suc t) r j o e a h =
    let n = 2 ^ t in
    let s = hard_halves c t r o e a in
    let low = lower_row n r in
    let f = hard_row t low in
    let high = upper_row n r (transform t f) in
    let g = hard_row t high in
    let long_low : length low ≡ n = long_lower_row t r e in
    let long_f : length f ≡ n = length-hard_row t low long_low in
    let long_high : length high ≡ n = long_upper_row t r e (transform t f) (length-transform t f long_f) in
    subst (λ (w : List ℕ). Speaks c (get_or w j 0) (value (suc t) r (take j w))) (sym s.halves)
    (⊎_elim
    (λ (k : j < n).
    rw (get_or-first f g n long_f j 0 k, take-append-le j f g (omega arith), length-take-le j f (omega arith), lt-ltb j n k)
    (hard-row c t low j o long_low s.low k))
    (λ (k : n ≤ j).
    let i = j - n in
    let is : j ≡ n + i = omega arith in
    let within : i < n = omega (arith, two-pow-succ t) in
    let cut : take j (f ++ g) ≡ f ++ take i g = ap (λ (x : ℕ). take x (f ++ g)) (is ∙ ap (λ (x : ℕ). x + i) (sym long_f)) ∙ take-append-add f g i in
    let past : n ≤ length (f ++ take i g) = omega (arith, length-append f (take i g)) in
    let bit : get_or (f ++ g) j 0 ≡ get_or g i 0 = ap (λ (x : ℕ). get_or (f ++ g) x 0) is ∙ get_or-second f g n long_f i 0 in
    rw (cut, bit, le-ltb (length (f ++ take i g)) n past, take_at f (take i g) n long_f, drop_at f (take i g) n long_f)
    (hard-row c t high i o long_high s.high within))
    (lt_or_le j n))

-- ---- the value at the first index has the least size in the row
at_least_lowers : (c : ℕ) (k l : List ℤ) → length k ≡ length l → AtLeast c (lowers k l) → AtLeast c k × AtLeast c l
at_least_lowers c [] [] e a = (tt, tt)
at_least_lowers c [] (y ∷ l) e a = absurd (suc-ne-zero (length l) (sym e))
at_least_lowers c (x ∷ k) [] e a = absurd (suc-ne-zero (length k) e)
at_least_lowers c (x ∷ k) (y ∷ l) e a =
    let rest = at_least_lowers c k l (suc_inj e) a.1 in
    ((omega (arith, size-lower x y, a.0), rest.0), (omega (arith, size-lower x y, a.0), rest.1))

-- what the first value has at least, each entry has
pub first-least : (c t : ℕ) (r : List ℤ) → length r ≡ 2 ^ t → c ≤ nat_abs (value t r []) → AtLeast c r
unfolding value
first-least c zero [] e h = tt
first-least c zero (x ∷ []) e h = (h, tt)
first-least c zero (x ∷ y ∷ r) e h = absurd (omega arith)
first-least c (suc t) r e h =
    let n = 2 ^ t in
    let even : length (take n r) ≡ length (drop n r) = length-first t r e ∙ sym (length-second t r e) in
    let below-first : c ≤ nat_abs (value t (lower_row n r) []) = rw (lt-ltb 0 n (pow_pos t)) at h in
    let both = at_least_lowers c (take n r) (drop n r) even (first-least c t (lower_row n r) (long_lower_row t r e) below-first) in
    subst (AtLeast c) (take-append-drop n r) (at_least_append c (take n r) (drop n r) both.0 both.1)

-- and what each entry has, the first value has
pub first_greatest : (c t : ℕ) (r : List ℤ) → 0 < c → length r ≡ 2 ^ t → AtLeast c r → c ≤ nat_abs (value t r [])
first_greatest c t r o e a = (hard-row c t r 0 o e a (pow_pos t)).size

-- ---- along the hard word nothing is added
hard_free : (r : List ℤ) → penalty r (map hard r) ≡ 0
unfolding penalty
hard_free [] = refl
hard_free (x ∷ r) = ap₂ ◌+◌ (loss-hard x) (hard_free r)

pub hard_adds_nothing : (t : ℕ) (r : List ℤ) → length r ≡ 2 ^ t → path_penalty t r (hard_row t r) ≡ 0
hard_adds_nothing t r e =
    path_full t r e (hard_row t r) (length-hard_row t r e) (bits_hard_row t r)
    ∙ ap (penalty r) (transform-twice t (map hard r) (length-map r hard ∙ e) (bits_signs r))
    ∙ hard_free r

-- nor along a part of it
pub hard-part : (t : ℕ) (r : List ℤ) (j : ℕ) → length r ≡ 2 ^ t → path_penalty t r (take j (hard_row t r)) ≡ 0
hard-part t r j e =
    let h = hard_row t r in
    let rises : path_penalty t r (take j h) ≤ path_penalty t r h =
    rw (take-append-drop j h) at (path_rises t r (take j h) (drop j h)) in
    omega (arith, hard_adds_nothing t r e)

-- ---- what is dropped
-- with it all that is no less
pub dropped-more : (h : Held) (p q : ℕ) → p ≤ q → dropped h p ≡ true → dropped h q ≡ true
dropped-more none p q k e = e
dropped-more (one a) p q k e = e
dropped-more (two a b) p q k e = le-leb b.penalty q (omega (arith, leb-true b.penalty p e))

-- and what is not dropped is less than what is
pub undropped_below : (h : Held) (p q : ℕ) → dropped h p ≡ false → dropped h q ≡ true → p < q
undropped_below h p q e f =
    ⊎_elim (λ k. k) (λ k. absurd (false≢true (sym e ∙ dropped-more h q p k f))) (lt_or_le p q)

-- it stays dropped
dropped-offer : (h : Held) (f : Full) (q : ℕ) → Sorted h → dropped h q ≡ true → dropped (offer h f) q ≡ true
dropped-offer none f q s e = absurd (false≢true e)
dropped-offer (one a) f q s e = absurd (false≢true e)
dropped-offer (two a b) f q s e =
    let low : b.penalty ≤ q = leb-true b.penalty q e in
    by_penalties (λ (h : Held). dropped h q ≡ true) a b f
    (λ i. le-leb a.penalty q (omega arith)) (λ i j. le-leb f.penalty q (omega arith)) (λ i. e)

dropped-offers : (h : Held) (l : List Full) (q : ℕ) → Sorted h → dropped h q ≡ true → dropped (offers h l) q ≡ true
dropped-offers h [] q s e = e
dropped-offers h (f ∷ l) q s e = dropped-offers (offer h f) l q (sorted_offer h f s) (dropped-offer h f q s e)

-- what is held is in order: a full path is always put in order
sorted_pair : (a f : Full) → Sorted (cond (ltb f.penalty a.penalty) (two f a) (two a f))
sorted_pair a f =
    cond_by Sorted (ltb f.penalty a.penalty) (two f a) (two a f)
    (λ e. le_of_lt (ltb-true f.penalty a.penalty e)) (λ e. ltb-false f.penalty a.penalty e)

pub sorted_hold : (h : Held) (f : Full) → Sorted (hold h f)
sorted_hold none f = tt
sorted_hold (one a) f = sorted_pair a f
sorted_hold (two a b) f = sorted_pair a f

module _ (m : ℕ) (l : List ℤ) (ks u : List ℕ) (p : ℕ) (s : State) (kept : dropped s.held p ≡ false) (sorted : Sorted s.held) where
  pub stays_dropped : (q : ℕ) → dropped s.held q ≡ true → dropped (walk m l ks u p s).held q ≡ true
  stays_dropped q e =
      ap (λ (h : Held). dropped h q) (walk-offers m l ks u p s kept) ∙ dropped-offers s.held (fulls m l ks u p) q sorted e

-- whatever number but 0 says that an index carries information
module _ (allowed m : ℕ) (l : List ℤ) where
  abbrev informed : (List ℕ → ℕ → State → Limited) → List ℕ → ℕ → State → Limited
  informed onward u p s =
      let v = value m l u in
      and_then (extend_within allowed onward v u p (hard v) s) (extend_within allowed onward v u p (1 - hard v))

  informs : (k : ℕ) (ks : List ℕ) → (k ≡ 0 → ⊥) → walk_within allowed m l (k ∷ ks) ≡ informed (walk_within allowed m l ks)
  unfolding walk_within
  informs zero ks some = absurd (some refl)
  informs (suc k) ks some = refl

  pub chosen_kinds : (n i : ℕ) (ks : List ℕ) → i + n ≤ length ks → ((j : ℕ) → j < n → get_or ks (i + j) 0 ≡ 0 → ⊥)
      → walk_within allowed m l (drop i ks) ≡ walk_within allowed m l (infos n ++ drop (i + n) ks)
  chosen_kinds zero i ks h f = ap (λ (k : ℕ). walk_within allowed m l (drop k ks)) (sym (add-zero i))
  chosen_kinds (suc n) i ks h f =
      let next : suc i + n ≡ i + suc n = omega arith in
      let later : (j : ℕ) → j < n → get_or ks (suc i + j) 0 ≡ 0 → ⊥ = λ j k z.
      let place : i + suc j ≡ suc i + j = omega arith in f (suc j) (omega arith) (ap (λ (x : ℕ). get_or ks x 0) place ∙ z) in
      ap (walk_within allowed m l) (drop-cons ks i 0 (omega arith))
      ∙ informs (get_or ks i 0) (drop (suc i) ks) (λ z. f 0 (omega arith) (ap (λ (x : ℕ). get_or ks x 0) (add-zero i) ∙ z))
      ∙ ap informed (chosen_kinds n (suc i) ks (omega arith) later ∙ ap (λ (x : ℕ). walk_within allowed m l (infos n ++ drop x ks)) next)
      ∙ sym (informs 1 (infos n ++ drop (i + suc n) ks) (λ z. suc-ne-zero 0 z))

-- the other bit loses the value's size
pub loss_other : (v : ℤ) → loss v (1 - hard v) ≡ nat_abs v
loss_other (pos n) = refl
loss_other (negsuc n) = refl

module _ (onward : List ℕ → ℕ → State → State) (v : ℤ) (u : List ℕ) (p : ℕ) (s : State) where
  extend-hard : (b : ℕ) → hard v ≡ b → dropped s.held p ≡ false → extend onward v u p (hard v) s ≡ onward (u ++ b ∷ []) p (visited s)
  extend-hard b e kept =
      let free : p + loss v (hard v) ≡ p = ap (λ (k : ℕ). p + k) (loss-hard v) ∙ add-zero p in
      rw (free, e, kept)

  extend_other : (c : ℕ) → c ≤ nat_abs v → dropped s.held (p + c) ≡ true → extend onward v u p (1 - hard v) s ≡ visited s
  extend_other c h gone = rw (dropped-more s.held (p + c) (p + loss v (1 - hard v)) (omega (arith, loss_other v)) gone)

module _ (m : ℕ) (l : List ℤ) where
  along_here : (c b : ℕ) (w u : List ℕ) → Along m l c u (b ∷ w) → Speaks c b (value m l u)
  along_here c b w u along = subst (λ (x : List ℕ). Speaks c b (value m l x)) (append-nil u) (along 0 (omega arith))

  along_onward : (c b : ℕ) (w u : List ℕ) → Along m l c u (b ∷ w) → Along m l c (u ++ b ∷ []) w
  along_onward c b w u along j h =
      subst (λ (x : List ℕ). Speaks c (get_or w j 0) (value m l x)) (sym (append_snoc u b (take j w))) (along (suc j) (omega arith))

  -- the rest, gone on with from the next index
  same_rest : (n b : ℕ) (ks u w : List ℕ) (p : ℕ) (s : State)
      → walk m l ks (u ++ b ∷ [] ++ w) p (visited_by n (visited s)) ≡ walk m l ks (u ++ b ∷ w) p (visited_by (suc n) s)
  same_rest n b ks u w p s =
      let before : s.visits + 1 + n ≡ s.visits + suc n = omega arith in
      rw (append_snoc u b w, before)

  last_visit : (n : ℕ) (x : State) → visited (visited_by n x) ≡ visited_by (suc n) x
  last_visit n x =
      let more : x.visits + n + 1 ≡ x.visits + suc n = omega arith in
      ap (λ (k : ℕ). record { held = x.held; visits = k }) more

  -- along w, where each other extension is dropped once the rest is walked
  pub run_later : (c : ℕ) (ks w u : List ℕ) (p : ℕ) (s : State) → dropped s.held p ≡ false → Along m l c u w
      → dropped (walk m l ks (u ++ w) p (visited_by (length w) s)).held (p + c) ≡ true
      → walk m l (infos (length w) ++ ks) u p s ≡ visited_by (length w) (walk m l ks (u ++ w) p (visited_by (length w) s))
  unfolding walk
  run_later c ks [] u p s kept along gone = rw (append-nil u, add-zero s.visits, add-zero (walk m l ks u p s).visits)
  run_later c ks (b ∷ w) u p s kept along gone =
      let n = length w in
      let v = value m l u in
      let rest = infos n ++ ks in
      let next : List ℕ = u ++ b ∷ [] in
      let here : Speaks c b v = along_here c b w u along in
      let is : walk m l ks (next ++ w) p (visited_by n (visited s)) ≡ walk m l ks (u ++ b ∷ w) p (visited_by (suc n) s) = same_rest n b ks u w p s in
      let gone_first : dropped (walk m l ks (next ++ w) p (visited_by n (visited s))).held (p + c) ≡ true =
      subst (λ (x : State). dropped x.held (p + c) ≡ true) (sym is) gone in
      let below_this : walk m l rest next p (visited s) ≡ visited_by n (walk m l ks (u ++ b ∷ w) p (visited_by (suc n) s)) =
      run_later c ks w next p (visited s) kept (along_onward c b w u along) gone_first ∙ ap (visited_by n) is in
      ap (extend (walk m l rest) v u p (1 - hard v)) (extend-hard (walk m l rest) v u p s b here.sign kept ∙ below_this)
      ∙ extend_other (walk m l rest) v u p (visited_by n (walk m l ks (u ++ b ∷ w) p (visited_by (suc n) s))) c here.size gone
      ∙ last_visit n (walk m l ks (u ++ b ∷ w) p (visited_by (suc n) s))

  -- where it is dropped at entry
  pub run-hard : (c : ℕ) (ks w u : List ℕ) (p : ℕ) (s : State) → dropped s.held p ≡ false → dropped s.held (p + c) ≡ true → Sorted s.held
      → Along m l c u w
      → walk m l (infos (length w) ++ ks) u p s ≡ visited_by (length w) (walk m l ks (u ++ w) p (visited_by (length w) s))
  run-hard c ks w u p s kept gone sorted along =
      run_later c ks w u p s kept along (stays_dropped m l ks (u ++ w) p (visited_by (length w) s) kept sorted (p + c) gone)

  -- ---- visits that are counted before the walk are counted after it
  visited-more : (n : ℕ) (s : State) → visited (visited_by n s) ≡ visited_by n (visited s)
  visited-more n s =
      let order : s.visits + n + 1 ≡ s.visits + 1 + n = omega arith in
      ap (λ (k : ℕ). record { held = s.held; visits = k }) order

  extend-more : (onward : List ℕ → ℕ → State → State) (n : ℕ) → ((u : List ℕ) (p : ℕ) (s : State) → onward u p (visited_by n s) ≡ visited_by n (onward u p s))
      → (v : ℤ) (u : List ℕ) (p b : ℕ) (s : State) → extend onward v u p b (visited_by n s) ≡ visited_by n (extend onward v u p b s)
  extend-more onward n more v u p b s =
      cond_two (λ (x y : State). x ≡ visited_by n y) (dropped s.held (p + loss v b)) _ _ _ _ (λ e. visited-more n s)
      (λ e. ap (onward (u ++ b ∷ []) (p + loss v b)) (visited-more n s) ∙ more (u ++ b ∷ []) (p + loss v b) (visited s))

  walk_more : (n : ℕ) (ks u : List ℕ) (p : ℕ) (s : State) → walk m l ks u p (visited_by n s) ≡ visited_by n (walk m l ks u p s)
  unfolding walk
  walk_more n [] u p s = refl
  walk_more n (zero ∷ ks) u p s = extend-more (walk m l ks) n (walk_more n ks) (value m l u) u p 0 s
  walk_more n (suc k ∷ ks) u p s =
      let v = value m l u in
      ap (extend (walk m l ks) v u p (1 - hard v)) (extend-more (walk m l ks) n (walk_more n ks) v u p (hard v) s)
      ∙ extend-more (walk m l ks) n (walk_more n ks) v u p (1 - hard v) (extend (walk m l ks) v u p (hard v) s)

  -- so both visits of each index come first
  run-first : (c : ℕ) (ks w u : List ℕ) (p : ℕ) (s : State) → dropped s.held p ≡ false → dropped s.held (p + c) ≡ true → Sorted s.held
      → Along m l c u w → walk m l (infos (length w) ++ ks) u p s ≡ walk m l ks (u ++ w) p (visited_by (length w + length w) s)
  run-first c ks w u p s kept gone sorted along =
      let n = length w in
      let both : s.visits + n + n ≡ s.visits + (n + n) = omega arith in
      run-hard c ks w u p s kept gone sorted along
      ∙ sym (walk_more n ks (u ++ w) p (visited_by n s))
      ∙ ap (λ (k : ℕ). walk m l ks (u ++ w) p (record { held = s.held; visits = k })) both

  -- ---- the same under an allowance
  module _ (allowed c : ℕ) (ks w u : List ℕ) (p : ℕ) (s : State) (kept : dropped s.held p ≡ false) (gone : dropped s.held (p + c) ≡ true)
      (sorted : Sorted s.held) (along : Along m l c u w) where
    abbrev twice : ℕ
    twice = length w + length w

    pub run_first_within : s.visits + twice ≤ allowed
        → walk_within allowed m l (infos (length w) ++ ks) u p s ≡ walk_within allowed m l ks (u ++ w) p (visited_by twice s)
    run_first_within h =
        walk_within_lem allowed m l (infos (length w) ++ ks) u p s (omega arith)
        ∙ ap (seen allowed) (run-first c ks w u p s kept gone sorted along)
        ∙ sym (walk_within_lem allowed m l ks (u ++ w) p (visited_by twice s) h)

    pub run_first_out : s.visits ≤ allowed → allowed < s.visits + twice → walk_within allowed m l (infos (length w) ++ ks) u p s ≡ out
    run_first_out h k =
        let x = walk m l ks (u ++ w) p (visited_by twice s) in
        walk_within_lem allowed m l (infos (length w) ++ ks) u p s h
        ∙ ap (seen allowed) (run-first c ks w u p s kept gone sorted along)
        ∙ seen_out allowed x (omega (arith, walk_visits m l ks (u ++ w) p (visited_by twice s)))

-- ---- at a block's start, by its row: c is no more than any size in it
module _ (m d t : ℕ) (l : List ℤ) (long : length l ≡ 2 ^ m) (u : List ℕ) (at : Starts m d t u) where
  abbrev row : List ℤ
  row = block_row m d l u

  abbrev word : List ℕ
  word = hard_row t row

  long_row : length row ≡ 2 ^ t
  long_row = length-block t d m l u at.level long

  pub long_word : length word ≡ 2 ^ t
  long_word = length-hard_row t row long_row

  -- the value at its first index has the row's least size
  pub block-first : value m l u ≡ value t row []
  block-first = ap (value m l) (sym (append-nil u)) ∙ value-block m d t l u at [] (pow_pos t)

  pub block-least : AtLeast (nat_abs (value m l u)) row
  block-least = first-least (nat_abs (value m l u)) t row long_row (rw block-first (omega arith))

  -- the hard word of a row adds nothing
  pub block_free : (n : ℕ) → n ≤ 2 ^ t → added_by m l u (take n word) ≡ 0
  block_free n h =
      block-penalty m d t l u at (take n word) (omega (arith, length-take-le n word (omega (arith, long_word)))) ∙ hard-part t row n long_row

  pub block_path : (n : ℕ) → n ≤ 2 ^ t → path_penalty m l (u ++ take n word) ≡ path_penalty m l u
  block_path n h = omega (arith, added_append m l [] u (take n word), block_free n h)

  module _ (c : ℕ) (sizes : AtLeast c row) where
    block_along : (n : ℕ) → n ≤ 2 ^ t → 0 < c → Along m l c u (take n word)
    block_along n h o j k =
        let long_part : length (take n word) ≡ n = length-take-le n word (omega (arith, long_word)) in
        let i : j < n = omega arith in
        let short : length (take j word) < 2 ^ t = omega (arith, length-take-le j word (omega (arith, long_word))) in
        rw (get_or-take n word j 0 i, take-take j n word (omega arith), value-block m d t l u at (take j word) short)
        (hard-row c t row j o long_row sizes (omega arith))

    whole : take (2 ^ t) word ≡ word
    whole = take_all (2 ^ t) word (omega (arith, long_word))

    pub block_along_all : 0 < c → Along m l c u word
    block_along_all o = subst (Along m l c u) whole (block_along (2 ^ t) (omega arith) o)
