-- Laws of the walk's steps: an extension is out, dropped, or gone on with; what the next step asks; what the deeper one leaves.
use Rattle.std.specs.Prelude.{◌≡◌, refl, Bool, true, false, List, [], ◌∷◌, ◌++◌, ℤ, nat_abs, length, set, take, drop, T, leb}
use Rattle.std.proofs.Math.Path.{ap}
use Rattle.std.proofs.Common.{ap₂, sym, ◌∙◌, subst, lt_of_le_of_lt, add-one, drop_of_length-le, length-set, take-take, take-suc-set, length-take-le, ltb-false}
use Rattle.std.proofs.Common.{ltb-true}
use Prim.Native.Nat.{ℕ, zero, suc, ◌+◌, ◌-◌, ◌^◌, ◌≤◌, ◌<◌}
use native.Mathlib.Omega.{arith}
use Rattle.std.proofs.Math.ListN.{get_or}
use Rattle.std.proofs.Math.Seq.{drop-cons}
use Rattle.std.proofs.lemmas.List.{take-set-le}
use Rattle.std.proofs.lemmas.Bool.{lt-leb}
use Rattle.numbers.specs.Halves.{length_more}
use Rattle.words.specs.Bits.{Bits}
use Rattle.words.specs.TransformLaws.{bits_more, bits_take}
use Rattle.decoding.specs.Readings.{loss, sum_limit}
use Rattle.decoding.specs.Quick.{hard}
use Rattle.decoding.specs.Walk.{State, Full, dropped, finished, value}
use Rattle.decoding.specs.Allowance.{Limited, ended, out, and_then, extend_within, walk_within}
use Rattle.decoding.specs.PathLaws.{value-sizes, path_more, path_sizes}
use Rattle.memory.specs.Memory.{RowsFor, ValueReady}
use Rattle.memory.proofs.RowsForLaws.{rows_for_less, rows_for_path}
use Rattle.walk.specs.declared.progress.Count.{Count}
use Rattle.walk.specs.declared.progress.Progress.{Progress}
use Rattle.walk.specs.Progress.{full_of, held_by, state_of, limited_of, allows, more, stopped, counted, made_for, with_count, drops, none_yet}
use Rattle.walk.specs.Progress.{Kept, Ready, Stepped, extension, Extended, Going, Onward}

pub true_false : {A : Type 0} → true ≡ false → A
true_false e = absurd (subst T e tt)

-- ---- the test against the second
drops_by : (k s q : ℕ) (x y : Full) → y.penalty ≡ s → (k < 2 → s ≡ none_yet) → q < none_yet → leb s q ≡ dropped (held_by k x y) q
drops_by zero s q x y e h j = lt-leb s q (omega (arith, h (omega arith)))
drops_by (suc zero) s q x y e h j = lt-leb s q (omega (arith, h (omega arith)))
drops_by (suc (suc k)) s q x y e h j = rw e

pub drops_held : (w : Progress) (best second : List ℕ) (q : ℕ) → (w.held < 2 → w.second ≡ none_yet) → q < none_yet
    → drops w q ≡ dropped (state_of w best second).held q
drops_held w best second q h j = drops_by w.held w.second q (full_of w.count.m best w.best) (full_of w.count.m second w.second) refl h j

-- ---- a visit
module _ (c : Count) {c' : Count} (e : c' ≡ counted c) where
  pub was_more : allows c ≡ true → c' ≡ more c
  was_more z = e ∙ rw z

  pub was_stopped : allows c ≡ false → c' ≡ stopped c
  was_stopped z = e ∙ rw z

-- ---- the written walk along the kinds from index i on
module _ (allowed m : ℕ) (l : List ℤ) (kinds : List ℕ) (i : ℕ) (u : List ℕ) (p : ℕ) (s : State) where
  pub walk_end : length kinds ≤ i → walk_within allowed m l (drop i kinds) u p s ≡ ended (finished u p s)
  unfolding walk_within
  walk_end h = rw (drop_of_length-le kinds {i = i} h)

  walk_frozen : i < length kinds → get_or kinds i 0 ≡ 0 → walk_within allowed m l (drop i kinds) u p s
      ≡ extend_within allowed (walk_within allowed m l (drop (i + 1) kinds)) (value m l u) u p 0 s
  unfolding walk_within
  walk_frozen h e = rw (add-one i, drop-cons kinds i 0 h, e)

  walk_info : i < length kinds → (get_or kinds i 0 ≡ 0 → ⊥) → walk_within allowed m l (drop i kinds) u p s
      ≡ and_then (extend_within allowed (walk_within allowed m l (drop (i + 1) kinds)) (value m l u) u p (hard (value m l u)) s)
      (extend_within allowed (walk_within allowed m l (drop (i + 1) kinds)) (value m l u) u p (1 - hard (value m l u)))
  unfolding walk_within
  walk_info h e =
      let z : get_or kinds i 0 ≡ suc (get_or kinds i 0 - 1) = omega arith in
      rw (add-one i, drop-cons kinds i 0 h, z)

pub bits_set : (x : List ℕ) (i b : ℕ) → b < 2 → Bits x → Bits (set x i b)
bits_set [] i b k h j = h j
bits_set (a ∷ x) zero b k h zero = k
bits_set (a ∷ x) zero b k h (suc j) = h (suc j)
bits_set (a ∷ x) (suc i) b k h zero = h 0
bits_set (a ∷ x) (suc i) b k h (suc j) = bits_set x i b k (λ n. h (suc n)) j

-- ---- what is kept
module _ {l : List ℤ} {w : Progress} {s : List ℤ} {y best second : List ℕ} where
  pub kept_less : {b : ℕ} (a : ℕ) → a ≤ b → Kept l w s y best second b → Kept l w s y best second a
  kept_less {b} a h k =
      record {
        high = k.high;
        sorted = k.sorted;
        index_inside = k.index_inside;
        long_path = k.long_path;
        bits = k.bits;
        both = k.both;
        rows = rows_for_less w.count.m l w.count.index b s y a h k.rows;
      }

  -- a bit of the path is put
  pub kept_put : {i : ℕ} (b : ℕ) → b < 2 → Kept l w s y best second i → Kept l w s (set y i b) best second i
  kept_put {i} b h k =
      record {
        high = k.high;
        sorted = k.sorted;
        index_inside = k.index_inside;
        long_path = length-set y i b ∙ k.long_path;
        bits = bits_set y i b h k.bits;
        both = k.both;
        rows = rows_for_path w.count.m l w.count.index i s y (set y i b) (sym (take-set-le i y i b (omega arith))) k.rows;
      }

  -- rows are made for index i
  pub kept_made_for : {b : ℕ} (i : ℕ) (s' : List ℤ) → i < 2 ^ w.count.m → Kept l w s y best second b → RowsFor w.count.m l y i i s'
      → Kept l (with_count w (made_for i (more w.count))) s' y best second i
  kept_made_for i s' h k f =
      record {
        high = k.high;
        sorted = k.sorted;
        index_inside = h;
        long_path = k.long_path;
        bits = k.bits;
        both = k.both;
        rows = f;
      }

  pub kept_stopped : {b : ℕ} → Kept l w s y best second b → Kept l (with_count w (stopped w.count)) s y best second b
  kept_stopped k =
      record {
        high = k.high;
        sorted = k.sorted;
        index_inside = k.index_inside;
        long_path = k.long_path;
        bits = k.bits;
        both = k.both;
        rows = k.rows;
      }

  pub kept_more : {b : ℕ} → Kept l w s y best second b → Kept l (with_count w (more w.count)) s y best second b
  kept_more k =
      record {
        high = k.high;
        sorted = k.sorted;
        index_inside = k.index_inside;
        long_path = k.long_path;
        bits = k.bits;
        both = k.both;
        rows = k.rows;
      }

-- ---- what a step asks, and the next one
module _ {l : List ℤ} {kinds : List ℕ} {s : List ℤ} {y best second : List ℕ} {i p : ℕ} {w : Progress} (r : Ready l kinds s y best second i p w) where
  pub short : i ≤ 256
  short = omega (arith, r.room, r.inside)

  long_here : length (take i y) ≡ i
  long_here = length-take-le i y (omega (arith, short, r.kept.long_path))

  bits_here : Bits (take i y)
  bits_here = bits_take i y r.kept.bits

  pub value-ready : i < 2 ^ w.count.m → ValueReady w.count.m l y w.count.index i s
  value-ready h =
      record {
        room = r.room;
        inside = h;
        was_inside = r.kept.index_inside;
        long = r.long;
        small = r.small;
        bits = r.kept.bits;
        before = r.kept.rows;
      }

  pub value_small : nat_abs (value w.count.m l (take i y)) < sum_limit
  value_small = omega (arith, value-sizes w.count.m l (take i y), r.small)

  module _ (b : ℕ) (inside : i < 2 ^ w.count.m) (bit : b < 2) where
    pub sum_small : p + loss (value w.count.m l (take i y)) b < sum_limit
    sum_small =
        let u = take i y in
        let long : length (u ++ b ∷ []) ≤ 2 ^ w.count.m = rw (length_more u b) (omega (arith, long_here)) in
        rw (r.penalty, ← (path_more w.count.m l u b))
        (lt_of_le_of_lt (path_sizes w.count.m l r.long (u ++ b ∷ []) long (bits_more u b bits_here bit)) r.small)

    pub put_path : (y' : List ℕ) → length y' ≡ 256 → take i y' ≡ take i y → take (i + 1) (set y' i b) ≡ take i y ++ b ∷ []
    put_path y' long e =
        ap (λ (k : ℕ). take k (set y' i b)) (add-one i) ∙ take-suc-set y' i b (omega (arith, r.room))
        ∙ ap (λ (u : List ℕ). u ++ b ∷ []) e

    -- with the bit put
    pub next-ready : {s' : List ℤ} {y' best' second' : List ℕ} {q : ℕ} {z : Progress} → z.count.m ≡ w.count.m → z.count.out ≡ false → take i y' ≡ take i y
        → q ≡ p + loss (value w.count.m l (take i y)) b → drops z q ≡ false → Kept l z s' y' best' second' i
        → Ready l kinds s' (set y' i b) best' second' (i + 1) q z
    next-ready {s'} {y'} {best'} {second'} {q} {z} same going path adds undropped kept =
        let e : i + 1 - 1 ≡ i = omega arith in
        record {
          room = rw same r.room;
          long = rw same r.long;
          long_kinds = rw same r.long_kinds;
          small = r.small;
          inside = rw same (omega arith);
          penalty = adds ∙ rw (same, put_path y' kept.long_path path, path_more w.count.m l (take i y) b, ← r.penalty);
          going = going;
          undropped = undropped;
          kept = subst (Kept l z s' (set y' i b) best' second') (sym e) (kept_put b bit kept);
        }

    -- what the deeper step leaves
    module _ (y₁ : List ℕ) {best₁ second₁ : List ℕ} {q : ℕ} {z w' : Progress} {s' : List ℤ} {y' best' second' : List ℕ} (path : take i y₁ ≡ take i y)
        (long : length y₁ ≡ 256) (st : Stepped l kinds (i + 1) q z (set y₁ i b) best₁ second₁ w' s' y' best' second') where
      pub left_path : take i y' ≡ take i y
      left_path =
          sym (take-take i (i + 1) y' (omega arith)) ∙ ap (take i) st.path_stays
          ∙ take-take i (i + 1) (set y₁ i b) (omega arith) ∙ take-set-le i y₁ i b (omega arith) ∙ path

      pub left_kept : Kept l w' s' y' best' second' i
      left_kept = let e : i + 1 - 1 ≡ i = omega arith in subst (Kept l w' s' y' best' second') e st.kept

      pub left_walks : limited_of w' best' second'
          ≡ walk_within z.count.allowed z.count.m l (drop (i + 1) kinds) (take i y ++ b ∷ []) q (state_of z best₁ second₁)
      left_walks =
          st.walks ∙ ap (λ (u : List ℕ). walk_within z.count.allowed z.count.m l (drop (i + 1) kinds) u q (state_of z best₁ second₁)) (put_path y₁ long path)

-- ---- one extension, of the path u, where z is held before it
module _ (l : List ℤ) (kinds : List ℕ) (i p b : ℕ) (u : List ℕ) (z : Progress) (best second : List ℕ) where
  pub extension_out : {w' : Progress} {s : List ℤ} {y : List ℕ} → allows z.count ≡ false → w' ≡ with_count z (stopped z.count)
      → take i y ≡ u → Kept l z s y best second (i - 1) → Extended l kinds i p b u z best second w' s y best second
  extension_out {s = s} {y = y} a e path k =
      subst (λ (x : Progress). Extended l kinds i p b u z best second x s y best second) (sym e) (record {
        gives = rw a;
        same_m = refl;
        same_allowed = refl;
        spent = λ o. ltb-false z.count.visits z.count.allowed a;
        path_stays = path;
        kept = kept_stopped k;
      })

  module _ (q : ℕ) (adds : q ≡ p + loss (value z.count.m l u) b) (a : allows z.count ≡ true) (low : q < none_yet)
      (high : z.held < 2 → z.second ≡ none_yet) where
    held_test : (t : Bool) → drops z q ≡ t → dropped (state_of z best second).held (p + loss (value z.count.m l u) b) ≡ t
    held_test t d = rw (← adds) (sym (drops_held z best second q high low) ∙ d)

    pub extension-dropped : {w' : Progress} {s : List ℤ} {y : List ℕ} → z.count.out ≡ false → (j : ℕ)
        → w' ≡ with_count z (made_for j (more z.count)) → drops z q ≡ true → take i y ≡ u
        → Kept l (with_count z (made_for j (more z.count))) s y best second (i - 1)
        → Extended l kinds i p b u z best second w' s y best second
    extension-dropped {s = s} {y = y} o j e d path k =
        subst (λ (x : Progress). Extended l kinds i p b u z best second x s y best second) (sym e) (record {
          gives = rw (o, a, held_test true d);
          same_m = refl;
          same_allowed = refl;
          spent = λ f. true_false (sym f ∙ o);
          path_stays = path;
          kept = k;
        })

    -- gone on with: the walk from the longer path on
    pub extension-is : (j : ℕ) → drops z q ≡ false → extension z l kinds i p b u (state_of z best second)
        ≡ walk_within z.count.allowed z.count.m l (drop (i + 1) kinds) (u ++ b ∷ []) q (state_of (with_count z (made_for j (more z.count))) best second)
    extension-is j d = rw (a, held_test false d, ← adds)

    pub extension_on : {w' : Progress} {s' : List ℤ} {y' best' second' : List ℕ} (j : ℕ) → drops z q ≡ false
        → limited_of w' best' second'
        ≡ walk_within z.count.allowed z.count.m l (drop (i + 1) kinds) (u ++ b ∷ []) q (state_of (with_count z (made_for j (more z.count))) best second)
        → w'.count.m ≡ z.count.m → w'.count.allowed ≡ z.count.allowed → (w'.count.out ≡ true → w'.count.allowed ≤ w'.count.visits)
        → take i y' ≡ u → Kept l w' s' y' best' second' i
        → Extended l kinds i p b u z best second w' s' y' best' second'
    extension_on j d walks same_m same_allowed spent path k =
        record {
          gives = walks ∙ sym (extension-is j d);
          same_m = same_m;
          same_allowed = same_allowed;
          spent = spent;
          path_stays = path;
          kept = kept_less (i - 1) (omega arith) k;
        }

-- ---- a step of one extension, and of two
module _ {l : List ℤ} {kinds : List ℕ} {s : List ℤ} {y best second : List ℕ} {i p : ℕ} {w : Progress} (r : Ready l kinds s y best second i p w)
    (inside : i < 2 ^ w.count.m) where
  within : i < length kinds
  within = omega (arith, r.long_kinds)

  pub one-extension : {w' : Progress} {s' : List ℤ} {y' best' second' : List ℕ} → get_or kinds i 0 ≡ 0
      → Extended l kinds i p 0 (take i y) w best second w' s' y' best' second' → Stepped l kinds i p w y best second w' s' y' best' second'
  one-extension e x =
      record {
        walks = x.gives ∙ sym (walk_frozen w.count.allowed w.count.m l kinds i (take i y) p (state_of w best second) within e);
        same_m = x.same_m;
        same_allowed = x.same_allowed;
        spent = x.spent;
        path_stays = x.path_stays;
        kept = x.kept;
      }

  module _ (e : get_or kinds i 0 ≡ 0 → ⊥) {z : Progress} {s₁ : List ℤ} {y₁ best₁ second₁ : List ℕ}
      (x : Extended l kinds i p (hard (value w.count.m l (take i y))) (take i y) w best second z s₁ y₁ best₁ second₁) where
    both : Limited
    both =
        and_then (extension w l kinds i p (hard (value w.count.m l (take i y))) (take i y) (state_of w best second))
        (extension w l kinds i p (1 - hard (value w.count.m l (take i y))) (take i y))

    whole : walk_within w.count.allowed w.count.m l (drop i kinds) (take i y) p (state_of w best second) ≡ both
    unfolding both
    whole = walk_info w.count.allowed w.count.m l kinds i (take i y) p (state_of w best second) within e

    first_out : z.count.out ≡ true → both ≡ out
    unfolding both
    first_out o =
        let f : limited_of z best₁ second₁ ≡ out = rw o in
        ap (λ (k : Limited). and_then k (extension w l kinds i p (1 - hard (value w.count.m l (take i y))) (take i y))) (sym x.gives ∙ f)

    first_ended : z.count.out ≡ false → both ≡ extension w l kinds i p (1 - hard (value w.count.m l (take i y))) (take i y) (state_of z best₁ second₁)
    unfolding both
    first_ended o =
        let f : limited_of z best₁ second₁ ≡ ended (state_of z best₁ second₁) = rw o in
        ap (λ (k : Limited). and_then k (extension w l kinds i p (1 - hard (value w.count.m l (take i y))) (take i y))) (sym x.gives ∙ f)

    -- the first extension ran out
    pub first_only : z.count.out ≡ true → Stepped l kinds i p w y best second z s₁ y₁ best₁ second₁
    first_only o =
        record {
          walks = (let f : limited_of z best₁ second₁ ≡ out = rw o in f) ∙ sym (whole ∙ first_out o);
          same_m = x.same_m;
          same_allowed = x.same_allowed;
          spent = x.spent;
          path_stays = x.path_stays;
          kept = x.kept;
        }

    -- where a visit is allowed, the first extension did not run out
    pub went_on : allows z.count ≡ true → z.count.out ≡ false
    went_on a = by_out z.count.out refl
      where
        by_out : (o : Bool) → z.count.out ≡ o → z.count.out ≡ false
        by_out true h = absurd (omega (arith, x.spent h, ltb-true z.count.visits z.count.allowed a))
        by_out false h = h

    -- no second visit is allowed
    pub second_out : {w' : Progress} → allows z.count ≡ false → w' ≡ with_count z (stopped z.count) → Stepped l kinds i p w y best second w' s₁ y₁ best₁ second₁
    second_out a f = subst (λ (k : Progress). Stepped l kinds i p w y best second k s₁ y₁ best₁ second₁) (sym f) (record {
      walks = sym (whole ∙ by_out z.count.out refl);
      same_m = x.same_m;
      same_allowed = x.same_allowed;
      spent = λ o. ltb-false z.count.visits z.count.allowed a;
      path_stays = x.path_stays;
      kept = kept_stopped x.kept;
    })
      where
        none_left : allows z.count ≡ false → extension w l kinds i p (1 - hard (value w.count.m l (take i y))) (take i y) (state_of z best₁ second₁) ≡ out
        none_left b = rw (← x.same_allowed, b)

        by_out : (o : Bool) → z.count.out ≡ o → both ≡ out
        by_out true h = first_out h
        by_out false h = first_ended h ∙ none_left a

    pub two_extensions : z.count.out ≡ false → {w' : Progress} {s₂ : List ℤ} {y₂ best₂ second₂ : List ℕ}
        → Extended l kinds i p (1 - hard (value w.count.m l (take i y))) (take i y) z best₁ second₁ w' s₂ y₂ best₂ second₂
        → Stepped l kinds i p w y best second w' s₂ y₂ best₂ second₂
    two_extensions o q =
        let same : extension z l kinds i p (1 - hard (value w.count.m l (take i y))) (take i y) (state_of z best₁ second₁)
        ≡ extension w l kinds i p (1 - hard (value w.count.m l (take i y))) (take i y) (state_of z best₁ second₁)
        = ap₂ (λ (a m : ℕ). extend_within a (walk_within a m l (drop (i + 1) kinds)) (value m l (take i y)) (take i y) p
        (1 - hard (value w.count.m l (take i y))) (state_of z best₁ second₁)) x.same_allowed x.same_m in
        record {
          walks = q.gives ∙ same ∙ sym (whole ∙ first_ended o);
          same_m = q.same_m ∙ x.same_m;
          same_allowed = q.same_allowed ∙ x.same_allowed;
          spent = q.spent;
          path_stays = q.path_stays;
          kept = q.kept;
        }

  -- the first visit is not allowed
  pub info_out : (get_or kinds i 0 ≡ 0 → ⊥) → {w' : Progress} → allows w.count ≡ false → w' ≡ with_count w (stopped w.count)
      → Stepped l kinds i p w y best second w' s y best second
  info_out e {w'} a f = subst (λ (k : Progress). Stepped l kinds i p w y best second k s y best second) (sym f)
      (first_only e {z = with_count w (stopped w.count)}
      (extension_out l kinds i p (hard (value w.count.m l (take i y))) (take i y) w best second a refl refl r.kept) refl)

-- ---- along the frozen indices
pub onward-start : {l : List ℤ} {kinds : List ℕ} {i p : ℕ} {w : Progress} {y best second : List ℕ} → Onward l kinds i p w y best second i p w y best second
onward-start = record { on = omega arith; same_m = refl; same_allowed = refl; path_stays = refl; walks = refl }

module _ {l : List ℤ} {kinds : List ℕ} {from p₀ : ℕ} {w₀ : Progress} {y₀ best₀ second₀ : List ℕ} {i p : ℕ} {w : Progress} {y best second : List ℕ}
    (o : Onward l kinds from p₀ w₀ y₀ best₀ second₀ i p w y best second) where
  -- a path that begins as y does
  begins : (x : List ℕ) → take i x ≡ take i y → take from x ≡ take from y₀
  begins x e = sym (take-take from i x o.on) ∙ ap (take from) e ∙ take-take from i y o.on ∙ o.path_stays

  pub onward-stepped : {w' : Progress} {s' : List ℤ} {y' best' second' : List ℕ} → Stepped l kinds i p w y best second w' s' y' best' second'
      → Stepped l kinds from p₀ w₀ y₀ best₀ second₀ w' s' y' best' second'
  onward-stepped {y' = y'} st =
      record {
        walks = st.walks ∙ o.walks;
        same_m = st.same_m ∙ o.same_m;
        same_allowed = st.same_allowed ∙ o.same_allowed;
        spent = st.spent;
        path_stays = begins y' st.path_stays;
        kept = kept_less (from - 1) (omega (arith, o.on)) st.kept;
      }

  pub onward-more : {s : List ℤ} (r : Ready l kinds s y best second i p w) → i < 2 ^ w.count.m → get_or kinds i 0 ≡ 0
      → {σ : Progress} {s₁ : List ℤ} {y₁ : List ℕ} → Going l y i w w σ s₁ y₁ best second
      → {q : ℕ} → q ≡ p + loss (value w.count.m l (take i y)) 0 → drops σ q ≡ false
      → Onward l kinds from p₀ w₀ y₀ best₀ second₀ (i + 1) q σ (set y₁ i 0) best second
  onward-more r inside kind {σ} {y₁ = y₁} g {q} adds d =
      subst (λ (x : Progress). Onward l kinds from p₀ w₀ y₀ best₀ second₀ (i + 1) q x (set y₁ i 0) best second) (sym g.is) (record {
        on = omega (arith, o.on);
        same_m = o.same_m;
        same_allowed = o.same_allowed;
        path_stays = begins (set y₁ i 0) (take-set-le i y₁ i 0 (omega arith) ∙ g.path);
        walks = ap (λ (u : List ℕ). walk_within w.count.allowed w.count.m l (drop (i + 1) kinds) u q
            (state_of (with_count w (made_for g.index (more w.count))) best second))
            (put_path r 0 inside (omega arith) y₁ g.kept.long_path g.path)
            ∙ sym (extension-is l kinds i p 0 (take i y) w best second q adds g.may low g.kept.high g.index undropped)
            ∙ sym (walk_frozen w.count.allowed w.count.m l kinds i (take i y) p (state_of w best second) (within r inside) kind)
            ∙ o.walks;
      })
    where
      low : q < none_yet
      low = omega (arith, adds, sum_small r 0 inside (omega arith))

      undropped : drops w q ≡ false
      undropped = sym (ap (λ (k : Progress). drops k q) g.is) ∙ d
