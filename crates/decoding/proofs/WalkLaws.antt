-- What the walk without a limit holds at its end: dropping loses nothing, and the full paths are all rows of the code,
-- so the two held are rows with the least penalty and the next one; with a gap above 0 the first is the best word's row.
use Rattle.std.specs.Prelude.{◌≡◌, ◌⊎◌, false, ℤ, pos, negsuc}
use Rattle.std.proofs.Math.Path.{refl, ap, ap₂, sym}
use Rattle.std.proofs.Common.{◌∙◌, arith, le_refl, le-add_right, add_comm}
use Rattle.std.proofs.Math.Logic.{⊎_elim, inl, inr}
use mathlib.Core.List.{List, [], ◌∷◌, ◌++◌, append-nil, map, map-map, map-append}
use mathlib.Core.List.Memᴰ
use mathlib.Core.List.{Memᴰ}
use Prim.Native.Nat.{ℕ, zero, suc, ◌+◌, ◌-◌, ◌^◌, ◌≤◌, ◌<◌}
use Rattle.std.proofs.Math.Nat.{le_trans}
use Rattle.std.proofs.Math.ListN.{length, get_or}
use Rattle.std.proofs.lemmas.List.{length-map}
use Rattle.std.proofs.Math.Seq.{append_snoc, get_or-append_seam}
use Rattle.numbers.specs.Choice.{cond_by}
use Rattle.numbers.specs.Halves.{length_more}
use Rattle.numbers.specs.Sums.{sum}
use Rattle.numbers.specs.SumsLaws.{sum-append}
use Rattle.numbers.specs.LeastLaws.{Reordered, length-reordered, least_two_reordered, least-is, next-is}
use Rattle.numbers.specs.EntryLaws.{Distinct, distinct_append, map_same}
use Rattle.words.specs.Bits.{Bits}
use Rattle.words.specs.Word.{transform}
use Rattle.words.specs.Kinds.{fill, pick, all_bits}
use Rattle.words.specs.TransformLaws.{bits_more}
use Rattle.words.specs.FillLaws.{rows_of}
use Rattle.words.proofs.FillLaws.{fill-all_bits, of_rows_of, fill-pick, length-pick, bits_pick}
use Rattle.decoding.specs.Readings.{loss, penalty}
use Rattle.decoding.specs.Quick.{hard}
use Rattle.decoding.specs.Best.{penalties, least_penalty, gap, best_bits, best_word, TwoWords}
use Rattle.decoding.specs.Walk.{value, added_by, path_penalty, Full, Held, none, two, State, start, dropped, visited, extend, walk, walked}
use Rattle.decoding.specs.PathLaws.{path_more, path_full, hard_bit}
use Rattle.decoding.specs.BestLaws.{two_penalties, next-penalty, best_only}
use Rattle.decoding.specs.OfferLaws.{penalties_of, paths_of, offers}
use Rattle.decoding.proofs.OfferLaws.{offers-append, offers-dropped, two_held, offers-least, offers_each, offers_apart}
use Rattle.decoding.specs.WalkLaws.{CodePath, WalkEnd}

-- ---- all full paths below the path u of penalty p, in the walk's order
module _ (m : ℕ) (l : List ℤ) where
  unfoldable pub fulls : List ℕ → List ℕ → ℕ → List Full
  fulls [] u p = record { path = u; penalty = p } ∷ []
  fulls (zero ∷ ks) u p = fulls ks (u ++ 0 ∷ []) (p + loss (value m l u) 0)
  fulls (suc k ∷ ks) u p =
      let v = value m l u in
      fulls ks (u ++ hard v ∷ []) (p + loss v (hard v)) ++ fulls ks (u ++ (1 - hard v) ∷ []) (p + loss v (1 - hard v))

  -- none has less than p
  fulls_above : (ks u : List ℕ) (p : ℕ) (f : Full) → Memᴰ f (fulls ks u p) → p ≤ f.penalty
  unfolding fulls
  fulls_above [] u p f i = rw (Memᴰ.eq_of_singleton i) (le_refl p)
  fulls_above (zero ∷ ks) u p f i =
      let q = loss (value m l u) 0 in
      le_trans (le-add_right p q) (fulls_above ks (u ++ 0 ∷ []) (p + q) f i)
  fulls_above (suc k ∷ ks) u p f i =
      let v = value m l u in
      let go : (b : ℕ) → Memᴰ f (fulls ks (u ++ b ∷ []) (p + loss v b)) → p ≤ f.penalty = λ b j.
      le_trans (le-add_right p (loss v b)) (fulls_above ks (u ++ b ∷ []) (p + loss v b) f j) in
      ⊎_elim (go (hard v)) (go (1 - hard v)) (Memᴰ.append_cases (fulls ks (u ++ hard v ∷ []) (p + loss v (hard v))) i)

  -- ---- dropping loses nothing: what the walk holds is what is held after all full paths are offered in its order
  extend-offers : (ks u : List ℕ) (p b : ℕ) (s : State)
      → (dropped s.held (p + loss (value m l u) b) ≡ false
      → (walk m l ks (u ++ b ∷ []) (p + loss (value m l u) b) (visited s)).held ≡ offers s.held (fulls ks (u ++ b ∷ []) (p + loss (value m l u) b)))
      → (extend (walk m l ks) (value m l u) u p b s).held ≡ offers s.held (fulls ks (u ++ b ∷ []) (p + loss (value m l u) b))
  extend-offers ks u p b s below =
      let q = p + loss (value m l u) b in
      let all = fulls ks (u ++ b ∷ []) q in
      cond_by (λ (r : State). r.held ≡ offers s.held all) (dropped s.held q) (visited s) (walk m l ks (u ++ b ∷ []) q (visited s))
      (λ e. sym (offers-dropped s.held q all e (fulls_above ks (u ++ b ∷ []) q))) below

  pub walk-offers : (ks u : List ℕ) (p : ℕ) (s : State) → dropped s.held p ≡ false → (walk m l ks u p s).held ≡ offers s.held (fulls ks u p)
  unfolding walk fulls
  walk-offers [] u p s e = rw e
  walk-offers (zero ∷ ks) u p s e = extend-offers ks u p 0 s (walk-offers ks (u ++ 0 ∷ []) (p + loss (value m l u) 0) (visited s))
  walk-offers (suc k ∷ ks) u p s e =
      let v = value m l u in
      let go : (b : ℕ) (t : State) → (extend (walk m l ks) v u p b t).held ≡ offers t.held (fulls ks (u ++ b ∷ []) (p + loss v b)) = λ b t.
      extend-offers ks u p b t (walk-offers ks (u ++ b ∷ []) (p + loss v b) (visited t)) in
      let x = fulls ks (u ++ hard v ∷ []) (p + loss v (hard v)) in
      let y = fulls ks (u ++ (1 - hard v) ∷ []) (p + loss v (1 - hard v)) in
      go (1 - hard v) (extend (walk m l ks) v u p (hard v) s) ∙ ap (λ (h : Held). offers h y) (go (hard v) s) ∙ sym (offers-append s.held x y)

-- ---- the full paths are the path, continued with the rows of the code
bit_cases : (v : ℤ) → (hard v ≡ 0) ⊎ (hard v ≡ 1)
bit_cases (pos n) = inl refl
bit_cases (negsuc n) = inr refl

-- a path that begins with u and continues with a row in x
record Onward (u : List ℕ) (x : List (List ℕ)) (path : List ℕ) : Type 0 where
  rest : List ℕ
  in_x : Memᴰ rest x
  joined : path ≡ u ++ rest

module _ (m : ℕ) (l : List ℤ) where
  fulls_rows : (ks u : List ℕ) (p : ℕ) (f : Full) → Memᴰ f (fulls m l ks u p) → Onward u (rows_of ks) f.path
  unfolding fulls rows_of
  fulls_rows [] u p f i =
      record { rest = []; in_x = Memᴰ.head refl; joined = ap (λ (g : Full). g.path) (Memᴰ.eq_of_singleton i) ∙ sym (append-nil u) }
  fulls_rows (zero ∷ ks) u p f i =
      let o = fulls_rows ks (u ++ 0 ∷ []) (p + loss (value m l u) 0) f i in
      record { rest = 0 ∷ o.rest; in_x = Memᴰ.map (λ r. 0 ∷ r) o.in_x; joined = o.joined ∙ append_snoc u 0 o.rest }
  fulls_rows (suc k ∷ ks) u p f i =
      let v = value m l u in
      let rows = rows_of ks in
      let zeros = map (λ r. 0 ∷ r) rows in
      let ones = map (λ r. 1 ∷ r) rows in
      let in_rows : (b : ℕ) (r : List ℕ) → (b ≡ 0) ⊎ (b ≡ 1) → Memᴰ r rows → Memᴰ (b ∷ r) (zeros ++ ones) = λ b r c j.
      ⊎_elim (λ e. rw e (Memᴰ.append_left ones (Memᴰ.map (λ x. 0 ∷ x) j))) (λ e. rw e (Memᴰ.append_right zeros (Memᴰ.map (λ x. 1 ∷ x) j))) c in
      let go : (b : ℕ) → (b ≡ 0) ⊎ (b ≡ 1) → Memᴰ f (fulls m l ks (u ++ b ∷ []) (p + loss v b)) → Onward u (zeros ++ ones) f.path = λ b c j.
      let o = fulls_rows ks (u ++ b ∷ []) (p + loss v b) f j in
      record { rest = b ∷ o.rest; in_x = in_rows b o.rest c o.in_x; joined = o.joined ∙ append_snoc u b o.rest } in
      let other : (1 - hard v ≡ 0) ⊎ (1 - hard v ≡ 1) = ⊎_elim (λ e. inr (omega arith)) (λ e. inl (omega arith)) (bit_cases v) in
      ⊎_elim (go (hard v) (bit_cases v)) (go (1 - hard v) other)
      (Memᴰ.append_cases (fulls m l ks (u ++ hard v ∷ []) (p + loss v (hard v))) i)

  extended : (u : List ℕ) (p b : ℕ) → p ≡ path_penalty m l u → p + loss (value m l u) b ≡ path_penalty m l (u ++ b ∷ [])
  extended u p b e = ap (λ (n : ℕ). n + loss (value m l u) b) e ∙ sym (path_more m l u b)

  -- their penalties are those of the paths
  fulls-penalty : (ks u : List ℕ) (p : ℕ) (f : Full) → p ≡ path_penalty m l u → Memᴰ f (fulls m l ks u p) → f.penalty ≡ path_penalty m l f.path
  unfolding fulls
  fulls-penalty [] u p f e i =
      let z = Memᴰ.eq_of_singleton i in
      ap (λ (g : Full). g.penalty) z ∙ e ∙ sym (ap (λ (g : Full). path_penalty m l g.path) z)
  fulls-penalty (zero ∷ ks) u p f e i =
      fulls-penalty ks (u ++ 0 ∷ []) (p + loss (value m l u) 0) f (extended u p 0 e) i
  fulls-penalty (suc k ∷ ks) u p f e i =
      let v = value m l u in
      let go : (b : ℕ) → Memᴰ f (fulls m l ks (u ++ b ∷ []) (p + loss v b)) → f.penalty ≡ path_penalty m l f.path = λ b j.
      fulls-penalty ks (u ++ b ∷ []) (p + loss v b) f (extended u p b e) j in
      ⊎_elim (go (hard v)) (go (1 - hard v)) (Memᴰ.append_cases (fulls m l ks (u ++ hard v ∷ []) (p + loss v (hard v))) i)

  -- no path twice: those of the two branches differ at the index where they part
  fulls_distinct : (ks u : List ℕ) (p : ℕ) → Distinct (paths_of (fulls m l ks u p))
  unfolding fulls
  fulls_distinct [] u p = (Memᴰ.not-nil, tt)
  fulls_distinct (zero ∷ ks) u p = fulls_distinct ks (u ++ 0 ∷ []) (p + loss (value m l u) 0)
  fulls_distinct (suc k ∷ ks) u p =
      let v = value m l u in
      let below : ℕ → List Full = λ b. fulls m l ks (u ++ b ∷ []) (p + loss v b) in
      let at_u : (b : ℕ) (x : List ℕ) → Memᴰ x (paths_of (below b)) → get_or x (length u) 0 ≡ b = λ b x i.
      let f = Memᴰ.of_map (λ (g : Full). g.path) (below b) i in
      let o = fulls_rows ks (u ++ b ∷ []) (p + loss v b) f.0 f.1 in
      rw (← f.2, o.joined, append_snoc u b o.rest) (get_or-append_seam u b o.rest 0) in
      rw (map-append (λ (g : Full). g.path) (below (hard v)) (below (1 - hard v)))
      (distinct_append (paths_of (below (hard v))) (paths_of (below (1 - hard v)))
      (fulls_distinct ks (u ++ hard v ∷ []) (p + loss v (hard v))) (fulls_distinct ks (u ++ (1 - hard v) ∷ []) (p + loss v (1 - hard v)))
      (λ x i j. omega (arith, at_u (hard v) x i, at_u (1 - hard v) x j, hard_bit v)))

-- ---- and their penalties those of all words
sum_mapped : {A : Type 0} (g : ℕ → ℕ) (h : A → ℕ) (x y : List A) → sum (map g (map h (x ++ y))) ≡ sum (map g (map h x)) + sum (map g (map h y))
sum_mapped g h x y = rw (map-append h x y, map-append g (map h x) (map h y)) (sum-append (map g (map h x)) (map g (map h y)))

module _ (m : ℕ) (l : List ℤ) (e : length l ≡ 2 ^ m) where
  -- the penalty of the path u, continued with a row
  abbrev row_penalty : List ℕ → List ℕ → ℕ
  row_penalty u r = penalty l (transform m (u ++ r))

  branch : (u : List ℕ) (b : ℕ) (x : List (List ℕ)) → map (row_penalty u) (map (λ r. b ∷ r) x) ≡ map (row_penalty (u ++ b ∷ [])) x
  branch u b x =
      map-map (row_penalty u) (λ r. b ∷ r) x
      ∙ map_same (λ r. row_penalty u (b ∷ r)) (row_penalty (u ++ b ∷ [])) x (λ r i. ap (λ (y : List ℕ). penalty l (transform m y)) (sym (append_snoc u b r)))

  fulls-reordered : (ks u : List ℕ) (p : ℕ) → p ≡ path_penalty m l u → length u + length ks ≡ 2 ^ m → Bits u
      → Reordered (penalties_of (fulls m l ks u p)) (map (row_penalty u) (rows_of ks))
  unfolding fulls rows_of
  fulls-reordered [] u p f h k g =
      rw (append-nil u) (ap (λ (n : ℕ). sum (g n ∷ [])) (f ∙ path_full m l e u (omega arith) k))
  fulls-reordered (zero ∷ ks) u p f h k g =
      rw (branch u 0 (rows_of ks))
      (fulls-reordered ks (u ++ 0 ∷ []) (p + loss (value m l u) 0) (extended m l u p 0 f) (omega (arith, length_more u 0)) (bits_more u 0 k (omega arith)) g)
  fulls-reordered (suc j ∷ ks) u p f h k g =
      let v = value m l u in
      let rows = rows_of ks in
      let below : ℕ → List Full = λ b. fulls m l ks (u ++ b ∷ []) (p + loss v b) in
      let sums : ℕ → ℕ = λ b. sum (map g (map (row_penalty (u ++ b ∷ [])) rows)) in
      let go : (b : ℕ) → b < 2 → sum (map g (penalties_of (below b))) ≡ sums b = λ b c.
      fulls-reordered ks (u ++ b ∷ []) (p + loss v b) (extended m l u p b f) (omega (arith, length_more u b)) (bits_more u b k c) g in
      let left : sum (map g (penalties_of (below (hard v) ++ below (1 - hard v)))) ≡ sums (hard v) + sums (1 - hard v) =
      sum_mapped g (λ (w : Full). w.penalty) (below (hard v)) (below (1 - hard v)) ∙ ap₂ ◌+◌ (go (hard v) (hard_bit v)) (go (1 - hard v) (omega arith)) in
      let right : sum (map g (map (row_penalty u) (map (λ r. 0 ∷ r) rows ++ map (λ r. 1 ∷ r) rows))) ≡ sums 0 + sums 1 =
      sum_mapped g (row_penalty u) (map (λ r. 0 ∷ r) rows) (map (λ r. 1 ∷ r) rows) ∙ rw (branch u 0 rows, branch u 1 rows) in
      left ∙ ⊎_elim (λ z. rw z) (λ z. rw z (add_comm (sums 1) (sums 0))) (bit_cases v) ∙ sym right

module _ (m : ℕ) (ks : List ℕ) (l : List ℤ) (e : length l ≡ 2 ^ m) (f : length ks ≡ 2 ^ m) (kinds : Bits ks) (information : 1 ≤ sum ks) where
  all-fulls : Reordered (penalties_of (fulls m l ks [] 0)) (penalties m ks l)
  unfolding added_by penalties
  all-fulls g =
      fulls-reordered m l e ks [] 0 refl (omega arith) (λ i. omega arith) g
      ∙ ap (λ (x : List ℕ). sum (map g x))
      (ap (map (λ r. penalty l (transform m r))) (sym (fill-all_bits ks kinds)) ∙ map-map (λ r. penalty l (transform m r)) (fill ks) (all_bits (sum ks)))

  code_path : (w : Full) → Memᴰ w (fulls m l ks [] 0) → CodePath m ks l w
  unfolding added_by
  code_path w i =
      let o = fulls_rows m l ks [] 0 w i in
      let r = of_rows_of ks w.path kinds (Memᴰ.cast o.joined o.in_x) in
      let long : length w.path ≡ 2 ^ m = r.0 ∙ f in
      record { long = long; are_bits = r.1; frozen = r.2; has = fulls-penalty m l ks [] 0 w refl i ∙ path_full m l e w.path long r.1 }

  pub walked_end : (a b : Full) → (walked m ks l).held ≡ two a b → WalkEnd m ks l a b
  unfolding walked least_penalty
  walked_end a b h =
      let all = fulls m l ks [] 0 in
      let held : offers none all ≡ two a b = sym (walk-offers m l ks [] 0 start refl) ∙ h in
      let two_least = least_two_reordered (penalties_of all) (penalties m ks l) all-fulls (offers-least all a b held) in
      let both = offers_each (CodePath m ks l) all a b held code_path in
      let enough = two_penalties m ks l information in
      record {
        best_path = both.0;
        second_path = both.1;
        least_penalty_lem = sym (least-is (penalties m ks l) enough two_least);
        next-least = sym (next-is (penalties m ks l) enough two_least) ∙ next-penalty m ks l information;
        differ = offers_apart all a b held (fulls_distinct m l ks [] 0);
      }

  -- two full paths are held
  pub walked_two : (a : Full) × (b : Full) × ((walked m ks l).held ≡ two a b)
  unfolding walked
  walked_two =
      let all = fulls m l ks [] 0 in
      let many : length all ≡ length (penalties m ks l) =
      sym (length-map all (λ (w : Full). w.penalty)) ∙ length-reordered (penalties_of all) (penalties m ks l) all-fulls in
      let r = two_held all (rw many (two_penalties m ks l information)) in
      (r.0, r.1, walk-offers m l ks [] 0 start refl ∙ r.2)

  -- so two different rows of bits have words with the least penalty and the next
  pub best_two : TwoWords m ks l (least_penalty m ks l) (least_penalty m ks l + gap m ks l)
  best_two =
      let r = walked_two in
      let end = walked_end r.0 r.1 r.2 in
      let a = end.best_path in
      let b = end.second_path in
      let u = r.0.path in
      let v = r.1.path in
      let long_u : length u ≡ length ks = a.long ∙ sym f in
      let long_v : length v ≡ length ks = b.long ∙ sym f in
      let row-u : fill ks (pick ks u) ≡ u = fill-pick ks u a.frozen long_u in
      let row_v : fill ks (pick ks v) ≡ v = fill-pick ks v b.frozen long_v in
      record {
        first = pick ks u;
        second = pick ks v;
        first_bits = (length-pick ks u kinds long_u, bits_pick ks u a.are_bits);
        second_bits = (length-pick ks v kinds long_v, bits_pick ks v b.are_bits);
        differ = λ z. end.differ (sym row-u ∙ ap (fill ks) z ∙ row_v);
        first-has = ap (λ (x : List ℕ). penalty l (transform m x)) row-u ∙ sym a.has ∙ end.least_penalty_lem;
        second-has = ap (λ (x : List ℕ). penalty l (transform m x)) row_v ∙ sym b.has ∙ end.next-least;
      }

  -- with a gap above 0 the best path is the best word's
  module _ (a b : Full) (end : WalkEnd m ks l a b) (above : 0 < gap m ks l) where
    filled : fill ks (pick ks a.path) ≡ a.path
    filled = fill-pick ks a.path end.best_path.frozen (end.best_path.long ∙ sym f)

    pub best_bits_lem : pick ks a.path ≡ best_bits m ks l
    best_bits_lem =
        best_only m ks l information above (pick ks a.path)
        (length-pick ks a.path kinds (end.best_path.long ∙ sym f), bits_pick ks a.path end.best_path.are_bits)
        (ap (λ (x : List ℕ). penalty l (transform m x)) filled ∙ sym end.best_path.has ∙ end.least_penalty_lem)

    pub best_row : a.path ≡ fill ks (best_bits m ks l)
    best_row = sym filled ∙ ap (fill ks) best_bits_lem

    pub best_word_lem : transform m a.path ≡ best_word m ks l
    unfolding best_word
    best_word_lem = ap (transform m) best_row
