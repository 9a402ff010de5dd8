-- Laws of the walk's steps in the words of the code: what each call is asked and gives, of the arrays and of what is held and counted, σ.
use Rattle.std.specs.Prelude.{◌≡◌, refl, Bool, true, false, not, List, ℕ, ◌+◌, ◌-◌, ◌^◌, ◌<◌, ℤ, get_or, set, take, eqb}
use Rattle.std.proofs.Common.{ap, sym, ◌∙◌, subst, arith, get_or-take}
use Rattle.std.proofs.lemmas.Bool.{eqb-false}
use Rattle.words.specs.TransformLaws.{bits_take}
use Rattle.decoding.specs.Readings.{loss}
use Rattle.decoding.specs.Quick.{hard}
use Rattle.decoding.specs.Walk.{State, value, finished}
use Rattle.decoding.specs.OfferLaws.{Sorted}
use Rattle.decoding.proofs.InformationLaws.{sorted_hold}
use Rattle.decoding.specs.Allowance.{ended}
use Rattle.decoding.specs.PathLaws.{loss-hard}
use Rattle.memory.specs.Memory.{RowsFor}
use Rattle.walk.specs.declared.progress.Count.{Count}
use Rattle.walk.specs.declared.progress.Progress.{Progress}
use Rattle.walk.specs.Progress.{front, state_of, limited_of, more, made_for, with_count, drops, none_yet}
use Rattle.walk.specs.Progress.{Visited, Finished, Kept, Ready, Stepped, Extended, Going, Onward}
use Rattle.walk.specs.Progress.{StepAsked, StepGiven, Reached, ValueAsked, ValueGiven}
use Rattle.walk.specs.StepLaws.{true_false, was_more, was_stopped, kept_less, kept_made_for, kept_more, walk_end, value-ready, sum_small}
use Rattle.walk.specs.StepLaws.{next-ready, left_path, left_kept, left_walks, extension_out, extension-dropped, extension_on}
use Rattle.walk.specs.StepLaws.{one-extension, second_out, went_on, two_extensions, info_out, onward-start, onward-stepped, onward-more}

-- a visit, as the code asks for it
pub may_visit : {c c₁ : Count} {k : Bool} → not k ≡ false → Visited c k c₁ → Visited c true c₁
may_visit {k = true} e v = v
may_visit {k = false} e v = true_false e

pub may_not : {c c₁ : Count} {k : Bool} → not k ≡ true → Visited c k c₁ → Visited c false c₁
may_not {k = true} e v = true_false (sym e)
may_not {k = false} e v = v

-- ---- one extension that may go on, by the bit b, with the penalty q
module _ {l : List ℤ} {kinds : List ℕ} {s : List ℤ} {y best second : List ℕ} {i p : ℕ} {w : Progress} (r : Ready l kinds s y best second i p w)
    (inside : i < 2 ^ w.count.m) {z : Progress} {σ : Progress} {s₁ : List ℤ} {y₁ best₁ second₁ : List ℕ} (g : Going l y i w z σ s₁ y₁ best₁ second₁)
    (b : ℕ) (bit : b < 2) {q : ℕ} (adds : q ≡ p + loss (value w.count.m l (take i y)) b) where
  adds_z : q ≡ p + loss (value z.count.m l (take i y)) b
  adds_z = adds ∙ ap (λ (m : ℕ). p + loss (value m l (take i y)) b) (sym g.same_m)

  low : q < none_yet
  low = omega (arith, adds, sum_small r b inside bit)

  drops_z : (t : Bool) → drops σ q ≡ t → drops z q ≡ t
  drops_z t d = sym (ap (λ (k : Progress). drops k q) g.is) ∙ d

  go_dropped : drops σ q ≡ true → Extended l kinds i p b (take i y) z best₁ second₁ σ s₁ y₁ best₁ second₁
  go_dropped d =
      extension-dropped l kinds i p b (take i y) z best₁ second₁ q adds_z g.may low g.kept.high g.going g.index g.is
      (drops_z true d) g.path
      (kept_less (i - 1) (omega arith) g.kept)

  go_next : drops σ q ≡ false → Ready l kinds s₁ (set y₁ i b) best₁ second₁ (i + 1) q σ
  go_next d =
      next-ready r b inside bit (ap (λ (k : Progress). k.count.m) g.is ∙ g.same_m) (ap (λ (k : Progress). k.count.out) g.is ∙ g.going) g.path adds d
      (subst (λ (k : Progress). Kept l k s₁ y₁ best₁ second₁ i) (sym g.is) g.kept)

  go_on : {w' : Progress} {s' : List ℤ} {y' best' second' : List ℕ} → drops σ q ≡ false
      → Stepped l kinds (i + 1) q σ (set y₁ i b) best₁ second₁ w' s' y' best' second'
      → Extended l kinds i p b (take i y) z best₁ second₁ w' s' y' best' second'
  go_on {w'} {s'} {y'} {best'} {second'} d st =
      let st' : Stepped l kinds (i + 1) q (with_count z (made_for g.index (more z.count))) (set y₁ i b) best₁ second₁ w' s' y' best' second' =
      subst (λ (k : Progress). Stepped l kinds (i + 1) q k (set y₁ i b) best₁ second₁ w' s' y' best' second') g.is st in
      extension_on l kinds i p b (take i y) z best₁ second₁ q adds_z g.may low g.kept.high g.index (drops_z false d)
      (left_walks r b inside bit y₁ g.path g.kept.long_path st') st'.same_m st'.same_allowed st'.spent
      (left_path r b inside bit y₁ g.path g.kept.long_path st') (left_kept r b inside bit y₁ g.path g.kept.long_path st')

-- ---- what a step starts with
module _ {l₀ : List ℤ} {k₀ : List ℕ} {s : List ℤ} {y best second : List ℕ} {σ : Progress} {i p : ℕ} (a : StepAsked l₀ k₀ s y best second σ i p) where
  pub not_full : eqb i (2 ^ σ.count.m) ≡ false → i < 2 ^ σ.count.m
  not_full e = let n = eqb-false i (2 ^ σ.count.m) e in omega (arith, a.ready.inside, n)

  -- the path is full
  pub full_step : i ≡ 2 ^ σ.count.m → {σ' : Progress} {best' second' : List ℕ} → Finished p σ y best second σ' best' second'
      → StepGiven l₀ k₀ y best second σ i p s y best' second' σ'
  full_step e {σ'} {best'} {second'} f =
      let r = a.ready in
      let o : σ'.count.out ≡ false = ap (λ (k : Progress). k.count.out) f.rest ∙ r.going in
      let whole : take i y ≡ take (2 ^ σ.count.m) y = ap (λ (n : ℕ). take n y) e in
      let shown : limited_of σ' best' second' ≡ ended (state_of σ' best' second') = rw o in
      let in_order : Sorted (state_of σ' best' second').held =
      subst (λ (k : State). Sorted k.held) (sym f.holds)
      (sorted_hold (state_of σ best second).held (record { path = take (2 ^ σ.count.m) y; penalty = p })) in
      record {
        stepped = record {
          walks = shown ∙ ap ended f.holds ∙ ap (λ (u : List ℕ). ended (finished u p (state_of σ best second))) (sym whole)
              ∙ sym (walk_end σ.count.allowed σ.count.m (front σ.count l₀) (front σ.count k₀) i (take i y) p (state_of σ best second)
              (omega (arith, r.long_kinds)));
          same_m = ap (λ (k : Progress). k.count.m) f.rest;
          same_allowed = ap (λ (k : Progress). k.count.allowed) f.rest;
          spent = λ h. true_false (sym h ∙ o);
          path_stays = refl;
          kept = subst (λ (k : Progress). Kept (front σ.count l₀) k s y best' second' (i - 1)) (sym f.rest) (record {
            high = f.high r.kept.high;
            sorted = subst (λ (k : Progress). Sorted (state_of k best' second').held) f.rest in_order;
            index_inside = r.kept.index_inside;
            long_path = r.kept.long_path;
            bits = r.kept.bits;
            both = f.bits (bits_take (2 ^ σ.count.m) y r.kept.bits) r.kept.both;
            rows = r.kept.rows;
          });
        };
      }

  module _ (inside : i < 2 ^ σ.count.m) where
    pub within : i < 256
    within = omega (arith, inside, a.ready.room)

    pub kind_same : get_or (front σ.count k₀) i 0 ≡ get_or k₀ i 0
    kind_same = get_or-take (2 ^ σ.count.m) k₀ i 0 inside

    -- no visit is allowed
    pub frozen_stop : {c₁ : Count} → get_or k₀ i 0 ≡ 0 → Visited σ.count false c₁
        → StepGiven l₀ k₀ y best second σ i p s y best second (with_count σ c₁)
    frozen_stop e v =
        record {
          stepped = one-extension a.ready inside (kind_same ∙ e)
              (extension_out (front σ.count l₀) (front σ.count k₀) i p 0 (take i y) σ best second (sym v.answers)
              (ap (with_count σ) (was_stopped σ.count v.is (sym v.answers))) refl a.ready.kept);
        }

    pub info_stop : {c₁ : Count} → (get_or k₀ i 0 ≡ 0 → ⊥) → Visited σ.count false c₁
        → StepGiven l₀ k₀ y best second σ i p s y best second (with_count σ c₁)
    info_stop e v =
        record {
          stepped = info_out a.ready inside (λ k. e (sym kind_same ∙ k)) (sym v.answers) (ap (with_count σ) (was_stopped σ.count v.is (sym v.answers)));
        }

    -- one is: the value
    module _ {c₁ : Count} (v : Visited σ.count true c₁) where
      counts : c₁ ≡ more σ.count
      counts = was_more σ.count v.is (sym v.answers)

      pub value_asked : ValueAsked l₀ s y c₁ i
      value_asked = subst (λ (c : Count). ValueAsked l₀ s y c i) (sym counts) (record { ready = value-ready a.ready inside })

      module _ {x : ℤ} {s₂ : List ℤ} {c₂ : Count} (given : ValueGiven l₀ y c₁ i x s₂ c₂) where
        pub value-is : x ≡ value σ.count.m (front σ.count l₀) (take i y)
        value-is = given.is ∙ ap (λ (c : Count). value c.m (front c l₀) (take i y)) counts

        pub value_going : Going (front σ.count l₀) y i σ σ (with_count σ c₂) s₂ y best second
        value_going =
            record {
              same_m = refl;
              may = sym v.answers;
              going = a.ready.going;
              index = i;
              is = ap (with_count σ) (given.counts ∙ ap (made_for i) counts);
              path = refl;
              kept = kept_made_for i s₂ inside a.ready.kept (subst (λ (c : Count). RowsFor c.m (front c l₀) y i i s₂) counts given.rows);
            }

-- ---- along the frozen indices
module _ {l₀ : List ℤ} {k₀ : List ℕ} {s : List ℤ} {y best second : List ℕ} {σ : Progress} {i p : ℕ} where
  pub reached_start : StepAsked l₀ k₀ s y best second σ i p → Reached l₀ k₀ y best second σ i p s y best second σ i p
  reached_start a = record { asked = a; onward = onward-start }

  module _ {y₀ best₀ second₀ : List ℕ} {σ₀ : Progress} {from p₀ : ℕ} (r : Reached l₀ k₀ y₀ best₀ second₀ σ₀ from p₀ s y best second σ i p) where
    pub reached_given : {s' : List ℤ} {y' best' second' : List ℕ} {σ' : Progress} → StepGiven l₀ k₀ y best second σ i p s' y' best' second' σ'
        → StepGiven l₀ k₀ y₀ best₀ second₀ σ₀ from p₀ s' y' best' second' σ'
    reached_given {s'} {y'} {best'} {second'} {σ'} g =
        record {
          stepped = onward-stepped r.onward (subst (λ (n : ℕ). Stepped (take (2 ^ n) l₀) (take (2 ^ n) k₀) i p σ y best second
              σ' s' y' best' second') r.onward.same_m g.stepped);
        }

    -- a frozen index: the value is made, and the 0 not dropped
    module _ (inside : i < 2 ^ σ.count.m) (kind : get_or k₀ i 0 ≡ 0) {σ₂ : Progress} {s₂ : List ℤ}
        (g : Going (front σ.count l₀) y i σ σ σ₂ s₂ y best second) {q : ℕ} (adds : q ≡ p + loss (value σ.count.m (front σ.count l₀) (take i y)) 0) where
      pub frozen_dropped : drops σ₂ q ≡ true → StepGiven l₀ k₀ y₀ best₀ second₀ σ₀ from p₀ s₂ y best second σ₂
      frozen_dropped d =
          reached_given (record {
            stepped = one-extension r.asked.ready inside (kind_same r.asked inside ∙ kind)
                (go_dropped r.asked.ready inside g 0 (omega arith) adds d);
          })

      pub reached_more : drops σ₂ q ≡ false → {y₂ : List ℕ} → y₂ ≡ set y i 0 → Reached l₀ k₀ y₀ best₀ second₀ σ₀ from p₀ s₂ y₂ best second σ₂ (i + 1) q
      reached_more d {y₂} put =
          let m₂ : σ₂.count.m ≡ σ.count.m = ap (λ (k : Progress). k.count.m) g.is in
          let there : Onward (front σ.count l₀) (front σ.count k₀) from p₀ σ₀ y₀ best₀ second₀ i p σ y best second =
          subst (λ (n : ℕ). Onward (take (2 ^ n) l₀) (take (2 ^ n) k₀) from p₀ σ₀ y₀ best₀ second₀ i p σ y best second) (sym r.onward.same_m)
          r.onward in
          subst (λ (x : List ℕ). Reached l₀ k₀ y₀ best₀ second₀ σ₀ from p₀ s₂ x best second σ₂ (i + 1) q) (sym put) (record {
            asked = record {
              ready = subst (λ (n : ℕ). Ready (take (2 ^ n) l₀) (take (2 ^ n) k₀) s₂ (set y i 0) best second (i + 1) q σ₂) (sym m₂)
                  (go_next r.asked.ready inside g 0 (omega arith) adds d);
            };
            onward = subst (λ (n : ℕ). Onward (take (2 ^ n) l₀) (take (2 ^ n) k₀) from p₀ σ₀ y₀ best₀ second₀
                (i + 1) q σ₂ (set y i 0) best second)
                r.onward.same_m (onward-more there r.asked.ready inside (kind_same r.asked inside ∙ kind) g adds d);
          })

-- ---- at an information index: the deeper step, what it is asked, and what the extension gives
module _ {l₀ : List ℤ} {k₀ : List ℕ} {s : List ℤ} {y best second : List ℕ} {σ : Progress} {i p : ℕ} (a : StepAsked l₀ k₀ s y best second σ i p)
    (inside : i < 2 ^ σ.count.m) where
  module _ {z : Progress} {σ₂ : Progress} {s₁ : List ℤ} {y₁ best₁ second₁ : List ℕ} (g : Going (front σ.count l₀) y i σ z σ₂ s₁ y₁ best₁ second₁)
      (b : ℕ) (bit : b < 2) {q : ℕ} (adds : q ≡ p + loss (value σ.count.m (front σ.count l₀) (take i y)) b) (d : drops σ₂ q ≡ false)
      {y₂ : List ℕ} (put : y₂ ≡ set y₁ i b) where
    same : σ₂.count.m ≡ σ.count.m
    same = ap (λ (k : Progress). k.count.m) g.is ∙ g.same_m

    pub deeper_m : 2 ^ σ₂.count.m ≡ 2 ^ σ.count.m
    deeper_m = ap (λ (n : ℕ). 2 ^ n) same

    pub deeper_asked : StepAsked l₀ k₀ s₁ y₂ best₁ second₁ σ₂ (i + 1) q
    deeper_asked =
        record {
          ready = subst (λ (n : ℕ). Ready (take (2 ^ n) l₀) (take (2 ^ n) k₀) s₁ y₂ best₁ second₁ (i + 1) q σ₂) (sym same)
              (subst (λ (x : List ℕ). Ready (front σ.count l₀) (front σ.count k₀) s₁ x best₁ second₁ (i + 1) q σ₂) (sym put)
              (go_next a.ready inside g b bit adds d));
        }

    module _ {s' : List ℤ} {y' best' second' : List ℕ} {σ' : Progress} (st : StepGiven l₀ k₀ y₂ best₁ second₁ σ₂ (i + 1) q s' y' best' second' σ') where
      there : Stepped (front σ.count l₀) (front σ.count k₀) (i + 1) q σ₂ (set y₁ i b) best₁ second₁ σ' s' y' best' second'
      there =
          subst (λ (x : List ℕ). Stepped (front σ.count l₀) (front σ.count k₀) (i + 1) q σ₂ x best₁ second₁ σ' s' y' best' second') put
          (subst (λ (n : ℕ). Stepped (take (2 ^ n) l₀) (take (2 ^ n) k₀) (i + 1) q σ₂ y₂ best₁ second₁ σ' s' y' best' second') same st.stepped)

      pub deeper_given : Extended (front σ.count l₀) (front σ.count k₀) i p b (take i y) z best₁ second₁ σ' s' y' best' second'
      deeper_given = go_on a.ready inside g b bit adds d there

      -- the rows are still those of the path's bits below i + 1
      pub deeper_kept : Kept (front σ.count l₀) σ' s' y' best' second' i
      deeper_kept = left_kept a.ready b inside bit y₁ g.path g.kept.long_path there

  -- the first adds nothing, so that it is not dropped
  pub first_adds : p ≡ p + loss (value σ.count.m (front σ.count l₀) (take i y)) (hard (value σ.count.m (front σ.count l₀) (take i y)))
  first_adds = omega (arith, loss-hard (value σ.count.m (front σ.count l₀) (take i y)))

  pub first_undropped : {σ₂ : Progress} {s₁ : List ℤ} {y₁ best₁ second₁ : List ℕ} → Going (front σ.count l₀) y i σ σ σ₂ s₁ y₁ best₁ second₁
      → drops σ₂ p ≡ false
  first_undropped g = ap (λ (k : Progress). drops k p) g.is ∙ a.ready.undropped

  -- after it
  info : (get_or k₀ i 0 ≡ 0 → ⊥) → get_or (front σ.count k₀) i 0 ≡ 0 → ⊥
  info kind k = kind (sym (kind_same a inside) ∙ k)

  module _ (kind : get_or k₀ i 0 ≡ 0 → ⊥) (σ₃ : Progress) {s₃ : List ℤ} {y₃ best₃ second₃ : List ℕ}
      (x : Extended (front σ.count l₀) (front σ.count k₀) i p (hard (value σ.count.m (front σ.count l₀) (take i y))) (take i y) σ best second
      σ₃ s₃ y₃ best₃ second₃) where
    pub second_stop : {c₄ : Count} → Visited σ₃.count false c₄ → StepGiven l₀ k₀ y best second σ i p s₃ y₃ best₃ second₃ (with_count σ₃ c₄)
    second_stop v =
        record {
          stepped = second_out a.ready inside (info kind) x (sym v.answers) (ap (with_count σ₃) (was_stopped σ₃.count v.is (sym v.answers)));
        }

    pub second_going : {c₄ : Count} → Visited σ₃.count true c₄ → Kept (front σ.count l₀) σ₃ s₃ y₃ best₃ second₃ i
        → Going (front σ.count l₀) y i σ σ₃ (with_count σ₃ c₄) s₃ y₃ best₃ second₃
    second_going v k =
        record {
          same_m = x.same_m;
          may = sym v.answers;
          going = went_on a.ready inside (info kind) x (sym v.answers);
          index = σ₃.count.index;
          is = ap (with_count σ₃) (was_more σ₃.count v.is (sym v.answers));
          path = x.path_stays;
          kept = kept_more k;
        }

    -- the second is dropped, or gone on with
    module _ {σ₄ : Progress} (g : Going (front σ.count l₀) y i σ σ₃ σ₄ s₃ y₃ best₃ second₃) where
      pub second-dropped : {q : ℕ} → q ≡ p + loss (value σ.count.m (front σ.count l₀) (take i y)) (1 - hard (value σ.count.m (front σ.count l₀) (take i y)))
          → drops σ₄ q ≡ true → StepGiven l₀ k₀ y best second σ i p s₃ y₃ best₃ second₃ σ₄
      second-dropped adds d =
          record {
            stepped = two_extensions a.ready inside (info kind) x g.going
                (go_dropped a.ready inside g (1 - hard (value σ.count.m (front σ.count l₀) (take i y))) (omega arith) adds d);
          }

      pub second-given : {σ' : Progress} {s' : List ℤ} {y' best' second' : List ℕ}
          → Extended (front σ.count l₀) (front σ.count k₀) i p (1 - hard (value σ.count.m (front σ.count l₀) (take i y))) (take i y) σ₃ best₃ second₃
          σ' s' y' best' second' → StepGiven l₀ k₀ y best second σ i p s' y' best' second' σ'
      second-given e = record { stepped = two_extensions a.ready inside (info kind) x g.going e }
