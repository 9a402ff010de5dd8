-- Laws of information indices that are taken at once, one or a block of them, where the other bit at the first of them is dropped: what the step behind
-- them asks, and what the step at the first of them gives with it.
use Rattle.std.specs.Prelude.{◌≡◌, refl, Bool, true, false, ◌&&◌, List, [], ◌∷◌, ◌++◌, ℕ, zero, suc, ◌+◌, ◌-◌, ◌%◌, ◌^◌, ◌≤◌, ◌<◌, ℤ, nat_abs, length, get_or}
use Rattle.std.specs.Prelude.{set, take, drop, eqb, ltb}
use Rattle.std.proofs.Common.{ap, sym, ◌∙◌, subst, ⊎_elim, append_assoc, append-nil, arith, length-append, length-drop, length-set, length-take-le, take-take}
use Rattle.std.proofs.Common.{take_at, take_all, get_or-take, drop-set-lt, drop-drop, pow_pos, eqb-true, ltb-true, leb-true, leb-false}
use Rattle.std.proofs.lemmas.List.{take-set-le}
use Rattle.words.specs.Bits.{Bits}
use Rattle.words.specs.TransformLaws.{bits_take, bits_drop, bits_append}
use Rattle.decoding.specs.Readings.{loss}
use Rattle.decoding.specs.Quick.{hard}
use Rattle.decoding.specs.Walk.{State, dropped, value, path_penalty}
use Rattle.decoding.specs.Allowance.{Limited, walk_within}
use Rattle.decoding.specs.PathLaws.{hard_bit, loss-hard, path_more}
use Rattle.decoding.specs.Blocks.{block_row, Starts, hard_row, visited_by}
use Rattle.decoding.specs.BlockLaws.{starts}
use Rattle.decoding.specs.InformationLaws.{Speaks, Along}
use Rattle.decoding.proofs.InformationLaws.{bits_hard_row, loss_other, undropped_below, chosen_kinds, long_word, block-least}
use Rattle.decoding.specs.InformationLaws.{infos}
use Rattle.decoding.proofs.InformationLaws.{block_path, block_along_all, run_first_within, run_first_out}
use Rattle.rows.specs.Rows.{row_of}
use Rattle.memory.specs.Memory.{RowsFor}
use Rattle.memory.proofs.RowLaws.{start_le, row_block}
use Rattle.memory.proofs.RowsForLaws.{rows_for_path}
use Rattle.blocks.specs.Information.{all_chosen, with_hard}
use Rattle.blocks.specs.InformationLaws.{and_both, each_chosen}
use Rattle.walk.specs.declared.progress.Count.{Count}
use Rattle.walk.specs.declared.progress.Progress.{Progress}
use Rattle.walk.specs.Progress.{front, state_of, visiting, more, allows_more, counted_more, counted_by, made_for, with_count, drops, none_yet}
use Rattle.walk.specs.Progress.{Visited, Kept, Ready, Stepped, Onward, StepAsked, StepGiven, ValueGiven}
use Rattle.walk.specs.InformationBlocks.{HardAsked, BlockGiven}
use Rattle.walk.specs.InformationTestLaws.{lower_power, block_fits, BlockTaken, block-or-one}
use Rattle.walk.specs.StepLaws.{drops_held, was_more, kept_less, sum_small, put_path, bits_set, onward-stepped}
use Rattle.walk.specs.RunLaws.{ran}

-- ---- the n indices from i on carry information, and y' has their hard bits, which add nothing: each of their values has at least the size of the first
record HardRun (l : List ℤ) (kinds y : List ℕ) (i m n : ℕ) (y' : List ℕ) : Type 0 where
  some : 0 < n
  ends : i + n ≤ 2 ^ m
  chosen : (j : ℕ) → j < n → get_or kinds (i + j) 0 ≡ 0 → ⊥
  word : List ℕ
  long : length word ≡ n
  path : take (i + n) y' ≡ take i y ++ word
  along : 0 < nat_abs (value m l (take i y)) → Along m l (nat_abs (value m l (take i y))) (take i y) word
  free : path_penalty m l (take i y ++ word) ≡ path_penalty m l (take i y)
  long_path : length y' ≡ 256
  bits : Bits y'

module _ {l : List ℤ} {kinds : List ℕ} {s : List ℤ} {y best second : List ℕ} {i p : ℕ} {w : Progress} (r : Ready l kinds s y best second i p w)
    (inside : i < 2 ^ w.count.m) where
  abbrev here : ℤ
  here = value w.count.m l (take i y)

  long_before : i ≤ length y
  long_before = omega (arith, inside, r.kept.long_path, r.room)

  long_here : length (take i y) ≡ i
  long_here = length-take-le i y long_before

  module _ {s₂ : List ℤ} (rows : RowsFor w.count.m l y i i s₂) where
    -- ---- one index, whose bit is put
    run_of-one : (get_or kinds i 0 ≡ 0 → ⊥) → {y' : List ℕ} → y' ≡ set y i (hard here) → HardRun l kinds y i w.count.m 1 y'
    run_of-one kind {y'} put =
        record {
          some = omega arith;
          ends = omega (arith, inside);
          chosen = λ j h z. let first : i ≡ i + j = omega (arith, h) in kind (ap (λ (k : ℕ). get_or kinds k 0) first ∙ z);
          word = hard here ∷ [];
          long = refl;
          path = ap (take (i + 1)) put ∙ put_path r (hard here) inside (hard_bit here) y r.kept.long_path refl;
          along = λ o. first_along;
          free = path_more w.count.m l (take i y) (hard here) ∙ omega (arith, loss-hard here);
          long_path = ap length put ∙ length-set y i (hard here) ∙ r.kept.long_path;
          bits = subst Bits (sym put) (bits_set y i (hard here) (hard_bit here) r.kept.bits);
        }
      where
        first_along : Along w.count.m l (nat_abs here) (take i y) (hard here ∷ [])
        first_along zero h =
            subst (λ (x : List ℕ). Speaks (nat_abs here) (hard here) (value w.count.m l x)) (sym (append-nil (take i y)))
            (record { sign = refl; size = omega arith })
        first_along (suc j) h = absurd (omega (arith, h))

    -- ---- a block of 2^t indices that starts at i, by its row
    module _ (t : ℕ) (less : 2 ^ t < 2 ^ w.count.m) (at : i % 2 ^ t ≡ 0) where
      lower : t < w.count.m
      lower = lower_power w.count.m t less

      begins : Starts w.count.m (w.count.m - t) t (take i y)
      begins = starts w.count.m t (take i y) (omega (arith, lower)) (rw long_here at) (rw long_here inside)

      block_ends : i + 2 ^ t ≤ 2 ^ w.count.m
      block_ends = block_fits w.count.m t i less at inside

      abbrev block_word : List ℕ
      block_word = hard_row t (block_row w.count.m (w.count.m - t) l (take i y))

      word-is : hard_row t (row_of (2 ^ t) s₂) ≡ block_word
      word-is =
          ap (hard_row t) (rows.rows t lower (start_le t i) ∙ row_block w.count.m i y l (w.count.m - t) (omega arith) inside long_before)

      long_all : length block_word ≡ 2 ^ t
      long_all = long_word w.count.m (w.count.m - t) t l r.long (take i y) begins

      run_of-block : ((j : ℕ) → j < 2 ^ t → get_or kinds (i + j) 0 ≡ 0 → ⊥) → {y' : List ℕ} → y' ≡ with_hard (2 ^ t) t i s₂ y
          → HardRun l kinds y i w.count.m (2 ^ t) y'
      run_of-block chosen {y'} put =
          record {
            some = pow_pos t;
            ends = block_ends;
            chosen = chosen;
            word = block_word;
            long = long_all;
            path = ap (take (i + 2 ^ t)) cut ∙ take_at (take i y ++ block_word) behind (i + 2 ^ t) long_both;
            along = block_along_all w.count.m (w.count.m - t) t l r.long (take i y) begins (nat_abs here)
                (block-least w.count.m (w.count.m - t) t l r.long (take i y) begins);
            free = ap (λ (x : List ℕ). path_penalty w.count.m l (take i y ++ x)) (sym (take_all (2 ^ t) block_word (omega (arith, long_all))))
                ∙ block_path w.count.m (w.count.m - t) t l r.long (take i y) begins (2 ^ t) (omega arith);
            long_path = ap length cut ∙ length-append (take i y ++ block_word) behind
                ∙ simp length-drop (omega (arith, long_both, block_ends, r.room, r.kept.long_path));
            bits = subst Bits (sym cut) (bits_append (take i y ++ block_word) behind
                (bits_append (take i y) block_word (bits_take i y r.kept.bits) (bits_hard_row t (block_row w.count.m (w.count.m - t) l (take i y))))
                (bits_drop (2 ^ t) (drop i y) (bits_drop i y r.kept.bits)));
          }
        where
          behind : List ℕ
          behind = drop (2 ^ t) (drop i y)

          cut : y' ≡ take i y ++ block_word ++ behind
          cut =
              put ∙ ap (λ (x : List ℕ). take i y ++ (x ++ drop (2 ^ t) (drop i y))) word-is
              ∙ sym (append_assoc (take i y) block_word (drop (2 ^ t) (drop i y)))

          long_both : length (take i y ++ block_word) ≡ i + 2 ^ t
          long_both = length-append (take i y) block_word ∙ omega (arith, long_here, long_all)

    -- ---- behind such a run
    module _ {n : ℕ} {y' : List ℕ} (run : HardRun l kinds y i w.count.m n y') where
      same_before : take i y' ≡ take i y
      same_before =
          sym (take-take i (i + n) y' (omega arith)) ∙ ap (take i) run.path ∙ take_at (take i y) run.word i long_here

      run_kept : (v : ℕ) (o : Bool) → Kept l (with_count w (made_for i (visiting v o w.count))) s₂ y' best second (i + n - 1)
      run_kept v o =
          record {
            high = r.kept.high;
            sorted = r.kept.sorted;
            index_inside = inside;
            long_path = run.long_path;
            bits = run.bits;
            both = r.kept.both;
            rows = let f = rows_for_path w.count.m l i i s₂ y y' (sym same_before) rows in record { rows = λ k h e. f.rows k h (start_le k i) };
          }

      run-ready : Ready l kinds s₂ y' best second (i + n) p (ran (n + n) i w)
      run-ready =
          record {
            room = r.room;
            long = r.long;
            long_kinds = r.long_kinds;
            small = r.small;
            inside = run.ends;
            penalty = r.penalty ∙ sym (ap (path_penalty w.count.m l) run.path ∙ run.free);
            going = r.going;
            undropped = r.undropped;
            kept = run_kept (w.count.visits + (n + n)) w.count.out;
          }

      -- the other bit at i is dropped
      module _ (gone : drops w (p + nat_abs here) ≡ true) where
        abbrev state : State
        state = state_of w best second

        low : p + nat_abs here < none_yet
        low = omega (arith, sum_small r (1 - hard here) inside (omega arith), loss_other here)

        test : (q : ℕ) (b : Bool) → q ≤ p + nat_abs here → drops w q ≡ b → dropped state.held q ≡ b
        test q b h d = sym (drops_held w best second q r.kept.high (omega (arith, low))) ∙ d

        kept_here : dropped state.held p ≡ false
        kept_here = test p false (omega arith) r.undropped

        gone_here : dropped state.held (p + nat_abs here) ≡ true
        gone_here = test (p + nat_abs here) true (omega arith) gone

        along_here : Along w.count.m l (nat_abs here) (take i y) run.word
        along_here = run.along (omega (arith, undropped_below state.held p (p + nat_abs here) kept_here gone_here))

        informed : walk_within w.count.allowed w.count.m l (drop i kinds) (take i y) p state
            ≡ walk_within w.count.allowed w.count.m l (infos (length run.word) ++ drop (i + n) kinds) (take i y) p state
        informed =
            ap (λ (f : List ℕ → ℕ → State → Limited). f (take i y) p state)
            (chosen_kinds w.count.allowed w.count.m l n i kinds (omega (arith, run.ends, r.long_kinds)) run.chosen)
            ∙ ap (λ (k : ℕ). walk_within w.count.allowed w.count.m l (infos k ++ drop (i + n) kinds) (take i y) p state) (sym run.long)

        -- with both visits of each index counted, the walk from behind the run is the walk from i
        run-onward : w.count.visits + (n + n) ≤ w.count.allowed → Onward l kinds i p w y best second (i + n) p (ran (n + n) i w) y' best second
        run-onward allowed =
            record {
              on = omega arith;
              same_m = refl;
              same_allowed = refl;
              path_stays = same_before;
              walks = ap (λ (x : List ℕ). walk_within w.count.allowed w.count.m l (drop (i + n) kinds) x p (visited_by (n + n) state)) run.path
                  ∙ ap (λ (k : ℕ). walk_within w.count.allowed w.count.m l (drop (i + n) kinds) (take i y ++ run.word) p (visited_by (k + k) state))
                  (sym run.long)
                  ∙ sym (run_first_within w.count.m l w.count.allowed (nat_abs here) (drop (i + n) kinds) run.word (take i y) p state kept_here gone_here
                  r.kept.sorted along_here (omega (arith, run.long, allowed)))
                  ∙ sym informed;
            }

        -- where they are not allowed, the walk is out
        run_out : w.count.visits ≤ w.count.allowed → w.count.allowed < w.count.visits + (n + n)
            → Stepped l kinds i p w y best second (with_count w (made_for i (visiting w.count.allowed true w.count))) s₂ y' best second
        run_out low-visits few =
            record {
              walks = sym (informed ∙ run_first_out w.count.m l w.count.allowed (nat_abs here) (drop (i + n) kinds) run.word (take i y) p state
                  kept_here gone_here r.kept.sorted along_here low-visits (omega (arith, run.long, few)));
              same_m = refl;
              same_allowed = refl;
              spent = λ o. omega arith;
              path_stays = same_before;
              kept = kept_less (i - 1) (omega arith) (run_kept w.count.allowed true);
            }

-- ---- at an information index where a visit is counted, the value made and its bit put
put_again : (n s i b : ℕ) (rows : List ℤ) (y : List ℕ) → 0 < n → with_hard n s i rows (set y i b) ≡ with_hard n s i rows y
put_again n s i b rows y some =
    let same : drop n (drop i (set y i b)) ≡ drop n (drop i y) =
    drop-drop n i (set y i b) ∙ drop-set-lt (i + n) y i b (omega arith) ∙ sym (drop-drop n i y) in
    rw (take-set-le i y i b (omega arith), same)

module _ {l₀ : List ℤ} {k₀ : List ℕ} {s : List ℤ} {y best second : List ℕ} {σ : Progress} {i p : ℕ} (a : StepAsked l₀ k₀ s y best second σ i p)
    (inside : i < 2 ^ σ.count.m) {c₁ : Count} (v : Visited σ.count true c₁) {x : ℤ} {s₂ : List ℤ} {c₂ : Count} (given : ValueGiven l₀ y c₁ i x s₂ c₂) where
  abbrev found : ℤ
  found = value σ.count.m (front σ.count l₀) (take i y)

  visited : c₁ ≡ more σ.count
  visited = was_more σ.count v.is (sym v.answers)

  shown : c₂ ≡ made_for i (more σ.count)
  shown = given.counts ∙ ap (made_for i) visited

  same : c₂.m ≡ σ.count.m
  same = ap (λ (c : Count). c.m) shown

  made : RowsFor σ.count.m (front σ.count l₀) y i i s₂
  made = subst (λ (c : Count). RowsFor c.m (front c l₀) y i i s₂) visited given.rows

  pub hard_asked : HardAsked c₂ i
  hard_asked = record { room = rw same a.ready.room; inside = rw same inside }

  module _ (kind : get_or k₀ i 0 ≡ 0 → ⊥) {y₁ : List ℕ} (put : y₁ ≡ set y i (hard found)) {n : ℕ} {y₃ : List ℕ} (b : BlockGiven k₀ s₂ c₂ y₁ i n y₃) where
    of_block : BlockTaken k₀ s₂ c₂ y₁ i n y₃ → HardRun (front σ.count l₀) (front σ.count k₀) y i σ.count.m n y₃
    of_block tk =
        let c = and_both (eqb (i % n) 0) (ltb n (2 ^ c₂.m) && all_chosen k₀ i n) tk.here in
        let d = and_both (ltb n (2 ^ c₂.m)) (all_chosen k₀ i n) c.1 in
        let power : 2 ^ c₂.m ≡ 2 ^ σ.count.m = ap (λ (k : ℕ). 2 ^ k) same in
        let at : i % 2 ^ tk.size ≡ 0 = subst (λ (k : ℕ). i % k ≡ 0) tk.is (eqb-true (i % n) 0 c.0) in
        let less : 2 ^ tk.size < 2 ^ σ.count.m = omega (arith, ltb-true n (2 ^ c₂.m) d.0, power, tk.is) in
        let fits : i + 2 ^ tk.size ≤ 2 ^ σ.count.m = block_fits σ.count.m tk.size i less at inside in
        subst (λ (k : ℕ). HardRun (front σ.count l₀) (front σ.count k₀) y i σ.count.m k y₃) (sym tk.is)
        (run_of-block a.ready inside made tk.size less at
        (λ j h z. each_chosen k₀ i n d.1 j (omega (arith, tk.is, h)) (sym (get_or-take (2 ^ σ.count.m) k₀ (i + j) 0 (omega (arith, h, fits))) ∙ z))
        (tk.puts ∙ ap (with_hard n tk.size i s₂) put ∙ put_again n tk.size i (hard found) s₂ y (omega (arith, tk.is, pow_pos tk.size))
        ∙ ap (λ (k : ℕ). with_hard k tk.size i s₂ y) tk.is))

    of_one : (n ≡ 1) × (y₃ ≡ y₁) → HardRun (front σ.count l₀) (front σ.count k₀) y i σ.count.m n y₃
    of_one (one, left) =
        subst (λ (k : ℕ). HardRun (front σ.count l₀) (front σ.count k₀) y i σ.count.m k y₃) (sym one)
        (run_of-one a.ready inside made (λ z. kind (sym (get_or-take (2 ^ σ.count.m) k₀ i 0 inside) ∙ z)) (left ∙ put))

    run : HardRun (front σ.count l₀) (front σ.count k₀) y i σ.count.m n y₃
    run = ⊎_elim of_block of_one (block-or-one b)

    pub hard_ends : i + n ≤ 2 ^ σ.count.m
    hard_ends = run.ends

    -- the other bit is dropped
    module _ {q : ℕ} (adds : q ≡ p + loss found (1 - hard found)) (d : drops σ q ≡ true) where
      gone : drops σ (p + nat_abs found) ≡ true
      gone =
          let is : p + nat_abs found ≡ q = sym (adds ∙ ap (λ (k : ℕ). p + k) (loss_other found)) in
          ap (drops σ) is ∙ d

      -- the visits of all the indices, and of their other bits
      module _ {c₃ : Count} (counts : c₃ ≡ counted_by (n + n - 1) c₂) where
        of_visits : c₂.visits ≡ σ.count.visits + 1
        of_visits = ap (λ (c : Count). c.visits) shown

        of_allowed : c₂.allowed ≡ σ.count.allowed
        of_allowed = ap (λ (c : Count). c.allowed) shown

        module _ (may : allows_more (n + n - 1) c₂ ≡ true) where
          after : with_count σ c₃ ≡ ran (n + n) i σ
          after =
              let total : σ.count.visits + 1 + (n + n - 1) ≡ σ.count.visits + (n + n) = omega (arith, run.some) in
              let all : c₃ ≡ counted_more (n + n - 1) c₂ = counts ∙ rw may in
              ap (with_count σ) (all ∙ ap (counted_more (n + n - 1)) shown ∙ ap (λ (k : ℕ). made_for i (visiting k σ.count.out σ.count)) total)

          same_after : c₃.m ≡ σ.count.m
          same_after = ap (λ (k : Progress). k.count.m) after

          allowed : σ.count.visits + (n + n) ≤ σ.count.allowed
          allowed = omega (arith, leb-true (c₂.visits + (n + n - 1)) c₂.allowed may, of_visits, of_allowed, run.some)

          pub hard_m : 2 ^ c₃.m ≡ 2 ^ σ.count.m
          hard_m = ap (λ (k : ℕ). 2 ^ k) same_after

          module _ {k : ℕ} (k-is : k ≡ n) where
            pub behind_asked : StepAsked l₀ k₀ s₂ y₃ best second (with_count σ c₃) (i + k) p
            behind_asked =
                record {
                  ready = subst (λ (x : ℕ). Ready (take (2 ^ x) l₀) (take (2 ^ x) k₀) s₂ y₃ best second (i + k) p (with_count σ c₃)) (sym same_after)
                      (subst (λ (x : Progress). Ready (front σ.count l₀) (front σ.count k₀) s₂ y₃ best second (i + k) p x) (sym after)
                      (subst (λ (x : ℕ). Ready (front σ.count l₀) (front σ.count k₀) s₂ y₃ best second (i + x) p (ran (n + n) i σ)) (sym k-is)
                      (run-ready a.ready inside made run)));
                }

            pub behind_given : {s' : List ℤ} {y' best' second' : List ℕ} {σ' : Progress}
                → StepGiven l₀ k₀ y₃ best second (with_count σ c₃) (i + k) p s' y' best' second' σ'
                → StepGiven l₀ k₀ y best second σ i p s' y' best' second' σ'
            behind_given {s'} {y'} {best'} {second'} {σ'} st =
                let there : Stepped (front σ.count l₀) (front σ.count k₀) (i + k) p (with_count σ c₃) y₃ best second σ' s' y' best' second' =
                subst (λ (x : ℕ). Stepped (take (2 ^ x) l₀) (take (2 ^ x) k₀) (i + k) p (with_count σ c₃) y₃ best second σ' s' y' best' second') same_after
                st.stepped in
                record {
                  stepped = onward-stepped (run-onward a.ready inside made run gone allowed)
                      (subst (λ (x : ℕ). Stepped (front σ.count l₀) (front σ.count k₀) (i + x) p (ran (n + n) i σ) y₃ best second σ' s' y' best' second') k-is
                      (subst (λ (x : Progress). Stepped (front σ.count l₀) (front σ.count k₀) (i + k) p x y₃ best second σ' s' y' best' second') after there));
                }

        pub behind_out : allows_more (n + n - 1) c₂ ≡ false → StepGiven l₀ k₀ y best second σ i p s₂ y₃ best second (with_count σ c₃)
        behind_out few =
            let all : c₃ ≡ visiting c₂.allowed true c₂ = counts ∙ rw few in
            let after : with_count σ c₃ ≡ with_count σ (made_for i (visiting σ.count.allowed true σ.count)) =
            ap (with_count σ) (all ∙ ap (λ (c : Count). visiting c.allowed true c) shown) in
            let much : σ.count.allowed < σ.count.visits + (n + n) =
            omega (arith, leb-false (c₂.visits + (n + n - 1)) c₂.allowed few, of_visits, of_allowed, run.some) in
            let visits : σ.count.visits < σ.count.allowed = ltb-true σ.count.visits σ.count.allowed (sym v.answers) in
            record {
              stepped = subst (λ (k : Progress). Stepped (front σ.count l₀) (front σ.count k₀) i p σ y best second k s₂ y₃ best second) (sym after)
                  (run_out a.ready inside made run gone (omega (arith, visits)) much);
            }
