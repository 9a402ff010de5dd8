-- Laws of frozen indices taken at once: what the call that takes them gives, what it is asked, and where the frozen step is after it.
use Rattle.std.specs.Prelude.{◌≡◌, refl, Bool, true, false, ◌&&◌, List, ◌++◌, ◌⊎◌, ℕ, ◌+◌, ◌-◌, ◌*◌, ◌^◌, ◌%◌, ◌≤◌, ◌<◌, ℤ, length, get_or, take, drop}
use Rattle.std.specs.Prelude.{eqb, ltb}
use Rattle.std.proofs.Common.{ap, sym, ◌∙◌, subst, append_assoc, ⊎_elim, arith, mul-le-mul_right, length-append, length-take, length-drop, length-take-le}
use Rattle.std.proofs.Common.{take_all, take_at, take-take, get_or-take, get_or-drop, pow-add, eq-eqb, ne_eqb, eqb-true, ltb-true, leb-true}
use Rattle.std.proofs.lemmas.List.{length-replicate, replicate-append-replicate}
use Rattle.std.proofs.Math.Seq.{paste}
use Rattle.std.proofs.lemmas.List.Edits.{length-paste}
use Rattle.numbers.specs.Choice.{cond_by}
use Rattle.words.specs.Bits.{Bits}
use Rattle.words.specs.TransformLaws.{bits_append, bits_take, bits_drop, bits_zeros}
use Rattle.decoding.specs.Readings.{sizes}
use Rattle.decoding.specs.Walk.{added_by}
use Rattle.decoding.specs.Blocks.{zeros, block_row, Starts}
use Rattle.decoding.specs.BlockLaws.{starts, length-block}
use Rattle.rows.specs.Rows.{row_of}
use Rattle.memory.specs.Memory.{RowsFor}
use Rattle.memory.proofs.RowLaws.{start_le, row_block, row-sizes}
use Rattle.memory.proofs.RowsForLaws.{rows_for_path}
use Rattle.blocks.specs.Frozen.{frozen_run, run_adds}
use Rattle.blocks.specs.InformationLaws.{and_both}
use Rattle.blocks.specs.FrozenLaws.{run-sizes, run_frozen, run_added, adds_size}
use Rattle.walk.specs.declared.Block.{Block}
use Rattle.walk.specs.declared.progress.Count.{Count}
use Rattle.walk.specs.declared.progress.Progress.{Progress}
use Rattle.walk.specs.Progress.{front, more, made_for, visiting, with_count, drops, Visited, Kept, Ready, Onward, StepGiven, Reached, ValueGiven}
use Rattle.walk.specs.Progress.{allows_more, counted_more}
use Rattle.walk.specs.StepLaws.{true_false, was_more, sum_small}
use Rattle.walk.specs.RunLaws.{ran, ready-run, onward-run}
use Rattle.walk.specs.FrozenBlocks.{starts_block, run_at, run_penalty, takes, taken_at, BlockRoom, ZerosAsked, ZerosGiven}

-- ---- where one starts
starts_at_lem : (c : Count) (i : ℕ) → starts_block c i ≡ true → (i % 16 ≡ 0) × (5 ≤ c.m)
starts_at_lem c i e =
    let both = and_both (eqb (i % 16) 0) (ltb 4 c.m) e in
    (eqb-true (i % 16) 0 both.0, ltb-true 4 c.m both.1)

-- as its code goes
pub starts-not : (c : Count) (i : ℕ) → (i % 16 ≡ 0 → ⊥) → false ≡ starts_block c i
starts-not c i h = sym (ap (λ (b : Bool). b && ltb 4 c.m) (ne_eqb (i % 16) 0 h))

pub starts_by : (c : Count) (i : ℕ) {r : Bool} → i % 16 ≡ 0 → r ≡ ltb 4 c.m → r ≡ starts_block c i
starts_by c i h e = e ∙ sym (ap (λ (b : Bool). b && ltb 4 c.m) (eq-eqb (i % 16) 0 h))

-- ---- whether
module _ (n q : ℕ) (w : Progress) where
  takes_none : n ≡ 0 → takes n q w ≡ false
  takes_none e = rw e refl

  takes-dropped : (n ≡ 0 → ⊥) → drops w q ≡ true → takes n q w ≡ false
  takes-dropped h e = rw (ne_eqb n 0 h, e) refl

  takes_allowed : (n ≡ 0 → ⊥) → drops w q ≡ false → takes n q w ≡ allows_more (n - 1) w.count
  takes_allowed h e = rw (ne_eqb n 0 h, e) refl

  module _ (e : takes n q w ≡ true) where
    took_some : n ≡ 0 → ⊥
    took_some k = true_false (sym e ∙ takes_none k)

    took_undropped : drops w q ≡ false
    took_undropped =
        cond_by (λ (x : Unit {0}). drops w q ≡ false) (drops w q) tt tt (λ d. true_false (sym e ∙ takes-dropped took_some d)) (λ d. d)

    took_allowed : w.count.visits + (n - 1) ≤ w.count.allowed
    took_allowed = leb-true (w.count.visits + (n - 1)) w.count.allowed (sym (takes_allowed took_some took_undropped) ∙ e)

-- ---- what the call gives, as its code goes: n is the run's length, and a what its zeros add
module _ (k₀ : List ℕ) (s : List ℤ) (y : List ℕ) (w : Progress) (i p : ℕ) where
  left_alone : taken_at k₀ s w i p ≡ false → ZerosGiven k₀ s y w i p (record { length = 0; adds = 0 }) y w
  left_alone e = record { answers = rw e refl; path = rw e refl; counts = rw e refl }

  module _ {n : ℕ} (run : n ≡ frozen_run (drop i k₀)) where
    same_run : run_at k₀ i ≡ n
    same_run = sym run

    pub given-none : n ≡ 0 → ZerosGiven k₀ s y w i p (record { length = 0; adds = 0 }) y w
    given-none e = left_alone (takes_none (run_at k₀ i) (run_penalty s (run_at k₀ i) p) w (same_run ∙ e))

    module _ (some : n ≡ 0 → ⊥) {a : ℕ} (adds : a ≡ run_adds n (row_of 16 s)) where
      same_penalty : run_penalty s (run_at k₀ i) p ≡ p + a
      same_penalty = ap (λ (k : ℕ). run_penalty s k p) same_run ∙ ap (λ (k : ℕ). p + k) (sym adds)

      same_taken : taken_at k₀ s w i p ≡ takes n (p + a) w
      same_taken = ap (λ (k : ℕ). takes k (run_penalty s (run_at k₀ i) p) w) same_run ∙ ap (λ (q : ℕ). takes n q w) same_penalty

      pub given-dropped : drops w (p + a) ≡ true → ZerosGiven k₀ s y w i p (record { length = 0; adds = 0 }) y w
      given-dropped d = left_alone (same_taken ∙ takes-dropped n (p + a) w some d)

      module _ (undropped : drops w (p + a) ≡ false) where
        taken_by : taken_at k₀ s w i p ≡ allows_more (n - 1) w.count
        taken_by = same_taken ∙ takes_allowed n (p + a) w some undropped

        pub given_unvisited : allows_more (n - 1) w.count ≡ false → ZerosGiven k₀ s y w i p (record { length = 0; adds = 0 }) y w
        given_unvisited e = left_alone (taken_by ∙ e)

        pub given_taken : allows_more (n - 1) w.count ≡ true → {y' : List ℕ} {w' : Progress} → y' ≡ paste y i (zeros 16) 16
            → w' ≡ with_count w (counted_more (n - 1) w.count) → ZerosGiven k₀ s y w i p (record { length = n; adds = a }) y' w'
        given_taken e put counts =
            record {
              answers = rw (taken_by, e, same_run, adds) refl;
              path = rw (taken_by, e) put;
              counts = rw (taken_by, e, same_run) counts;
            }

-- ---- at the start of a block of 16 in a code of more positions, where all rows of sums are made for its first index
module _ (m : ℕ) (l : List ℤ) (y : List ℕ) (i : ℕ) (s : List ℤ) (more_than_16 : 5 ≤ m) (at : i % 16 ≡ 0) (inside : i < 2 ^ m)
    (long : length l ≡ 2 ^ m) (path : i ≤ length y) (rows : RowsFor m l y i i s) where
  here : length (take i y) ≡ i
  here = length-take-le i y path

  begins : Starts m (m - 4) 4 (take i y)
  begins = starts m 4 (take i y) (omega arith) (rw here at) (rw here inside)

  block_ends : i + 16 ≤ 2 ^ m
  block_ends =
      let b = begins.blocks in
      let e : m ≡ m - 4 + 4 = omega arith in
      let whole : 2 ^ m ≡ 2 ^ (m - 4) * 16 = ap (λ (k : ℕ). 2 ^ k) e ∙ pow-add 2 (m - 4) 4 in
      let most : (b + 1) * 16 ≤ 2 ^ (m - 4) * 16 = mul-le-mul_right 16 (omega (arith, begins.inside)) in
      omega (arith, here, begins.at)

  block-is : row_of 16 s ≡ block_row m (m - 4) l (take i y)
  block-is = rows.rows 4 (omega arith) (start_le 4 i) ∙ row_block m i y l (m - 4) (omega arith) inside path

  block_long : 16 + 16 ≤ length s
  block_long =
      let e : m - 4 + 4 ≡ m = omega arith in
      let row : length (row_of 16 s) ≡ 16 = ap length block-is ∙ length-block 4 (m - 4) m l (take i y) e long in
      omega (arith, row, length-take 16 (drop 16 s), length-drop 16 s)

  block_small : sizes (row_of 16 s) ≤ sizes l
  block_small = rw (rows.rows 4 (omega arith) (start_le 4 i)) (row-sizes m l i y (m - 4))

  block_adds : (n p : ℕ) → (n ≡ 15) ⊎ (n ≡ 16) → run_penalty s n p ≡ p + added_by m l (take i y) (zeros n)
  block_adds n p h = ap (λ (r : List ℤ). p + run_adds n r) block-is ∙ ap (λ (k : ℕ). p + k) (sym (run_added m (m - 4) l (take i y) begins long n h))

-- rows made for an index are its rows however the path goes on
rows_for_on : {m : ℕ} {l : List ℤ} {y z : List ℕ} {i : ℕ} {s : List ℤ} (b : ℕ) → take i y ≡ take i z → RowsFor m l y i i s → RowsFor m l z i b s
rows_for_on {m} {l} {y} {z} {i} {s} b e f = record { rows = λ t k h. (rows_for_path m l i i s y z e f).rows t k (start_le t i) }

-- ---- the path with k zeros put at i
module _ (y : List ℕ) (i n k : ℕ) (few : n ≤ k) (room : i + k ≤ length y) where
  zeros_put : paste y i (zeros k) k ≡ (take i y ++ zeros n) ++ (zeros (k - n) ++ drop (i + k) y)
  zeros_put =
      let e : n + (k - n) ≡ k = omega arith in
      let cut : take k (zeros k) ≡ zeros n ++ zeros (k - n) =
      take_all k (zeros k) (omega (arith, length-replicate {A = ℕ} k 0)) ∙ ap zeros (sym e) ∙ sym (replicate-append-replicate n (k - n) 0) in
      ap (λ (x : List ℕ). take i y ++ x ++ drop (i + k) y) cut
      ∙ ap (λ (x : List ℕ). x ++ drop (i + k) y) (sym (append_assoc (take i y) (zeros n) (zeros (k - n))))
      ∙ append_assoc (take i y ++ zeros n) (zeros (k - n)) (drop (i + k) y)

  zeros_path : take (i + n) (paste y i (zeros k) k) ≡ take i y ++ zeros n
  zeros_path =
      let long : length (take i y ++ zeros n) ≡ i + n =
      length-append (take i y) (zeros n) ∙ omega (arith, length-take-le i y (omega arith), length-replicate {A = ℕ} n 0) in
      ap (take (i + n)) zeros_put ∙ take_at (take i y ++ zeros n) (zeros (k - n) ++ drop (i + k) y) (i + n) long

zeros_bits : (y : List ℕ) (i k : ℕ) → Bits y → Bits (paste y i (zeros k) k)
zeros_bits y i k h =
    bits_append (take i y ++ take k (zeros k)) (drop (i + k) y)
    (bits_append (take i y) (take k (zeros k)) (bits_take i y h) (bits_take k (zeros k) (bits_zeros k))) (bits_drop (i + k) y h)

-- ---- nothing was taken: the path, and what is held and counted, are as they were
module _ {l₀ : List ℤ} {k₀ y₀ best₀ second₀ : List ℕ} {σ₀ : Progress} {from p₀ : ℕ} {s : List ℤ} {y best second : List ℕ} {σ : Progress} where
  pub same_given : {y' : List ℕ} {σ' : Progress} → y' ≡ y → σ' ≡ σ → StepGiven l₀ k₀ y₀ best₀ second₀ σ₀ from p₀ s y best second σ
      → StepGiven l₀ k₀ y₀ best₀ second₀ σ₀ from p₀ s y' best second σ'
  same_given {σ' = σ'} e f g =
      subst (λ (x : List ℕ). StepGiven l₀ k₀ y₀ best₀ second₀ σ₀ from p₀ s x best second σ') (sym e)
      (subst (StepGiven l₀ k₀ y₀ best₀ second₀ σ₀ from p₀ s y best second) (sym f) g)

  pub same_reached : {i p : ℕ} {σ' : Progress} → σ' ≡ σ → Reached l₀ k₀ y₀ best₀ second₀ σ₀ from p₀ s y best second σ i p
      → Reached l₀ k₀ y₀ best₀ second₀ σ₀ from p₀ s y best second σ' i p
  same_reached {i} {p} e r = subst (λ (x : Progress). Reached l₀ k₀ y₀ best₀ second₀ σ₀ from p₀ s y best second x i p) (sym e) r

-- ---- the frozen step at the start of a block: a visit is counted, and the value made
module _ {l₀ : List ℤ} {k₀ : List ℕ} {s : List ℤ} {y best second y₀ best₀ second₀ : List ℕ} {σ σ₀ : Progress} {i p from p₀ : ℕ}
    (r : Reached l₀ k₀ y₀ best₀ second₀ σ₀ from p₀ s y best second σ i p) (inside : i < 2 ^ σ.count.m) {c₁ : Count}
    (v : Visited σ.count true c₁) {x : ℤ} {s₂ : List ℤ} {c₂ : Count} (given : ValueGiven l₀ y c₁ i x s₂ c₂) (begins-here : starts_block c₂ i ≡ true) where
  abbrev ready : Ready (front σ.count l₀) (front σ.count k₀) s y best second i p σ
  ready = r.asked.ready

  counts : c₁ ≡ more σ.count
  counts = was_more σ.count v.is (sym v.answers)

  now_counted : c₂ ≡ made_for i (more σ.count)
  now_counted = given.counts ∙ ap (made_for i) counts

  same_m : c₂.m ≡ σ.count.m
  same_m = ap (λ (c : Count). c.m) now_counted

  at : i % 16 ≡ 0
  at = (starts_at_lem c₂ i begins-here).0

  more_than_16 : 5 ≤ σ.count.m
  more_than_16 = omega (arith, same_m, (starts_at_lem c₂ i begins-here).1)

  one_more : c₂.visits ≡ σ.count.visits + 1
  one_more = ap (λ (c : Count). c.visits) now_counted

  same_allowed : c₂.allowed ≡ σ.count.allowed
  same_allowed = ap (λ (c : Count). c.allowed) now_counted

  rows : RowsFor σ.count.m (front σ.count l₀) y i i s₂
  rows = subst (λ (c : Count). RowsFor c.m (front c l₀) y i i s₂) counts given.rows

  in_path : i ≤ length y
  in_path = omega (arith, ready.room, ready.kept.long_path)

  ends : i + 16 ≤ 2 ^ σ.count.m
  ends = block_ends σ.count.m (front σ.count l₀) y i s₂ more_than_16 at inside ready.long in_path rows

  room : BlockRoom k₀ s₂ y i
  room =
      record {
        room = omega (arith, ends, ready.room);
        kinds = omega (arith, ends, ready.long_kinds, length-take (2 ^ σ.count.m) k₀);
        path = omega (arith, ends, ready.room, ready.kept.long_path);
        rows = block_long σ.count.m (front σ.count l₀) y i s₂ more_than_16 at inside ready.long in_path rows;
        small = omega (arith, block_small σ.count.m (front σ.count l₀) y i s₂ more_than_16 at inside ready.long in_path rows, ready.small);
      }

  pub zeros_asked : ZerosAsked k₀ s₂ y i p
  zeros_asked =
      record {
        low = omega (arith, sum_small ready 0 inside (omega arith));
        block = room;
      }

  -- what is held and counted when the call is made
  abbrev σ₂ : Progress
  σ₂ = with_count σ c₂

  module _ {t : Block} {y' : List ℕ} {σ' : Progress} (z : ZerosGiven k₀ s₂ y σ₂ i p t y' σ') where
    abbrev n : ℕ
    n = run_at k₀ i

    abbrev q : ℕ
    q = run_penalty s₂ n p

    -- none is taken
    pub zeros-left : t.length ≡ 0 → (y' ≡ y) × (σ' ≡ σ₂)
    zeros-left e =
        cond_by (λ (u : Unit {0}). (y' ≡ y) × (σ' ≡ σ₂)) (taken_at k₀ s₂ σ₂ i p) tt tt
        (λ b. let all : t ≡ record { length = n; adds = run_adds n (row_of 16 s₂) } = z.answers ∙ rw b refl in
        absurd (took_some n q σ₂ b (sym (ap (λ (x : Block). x.length) all) ∙ e)))
        (λ b. (z.path ∙ rw b refl, z.counts ∙ rw b refl))

    -- n are taken
    module _ (some : t.length ≡ 0 → ⊥) where
      took : takes n q σ₂ ≡ true
      took =
          cond_by (λ (u : Unit {0}). takes n q σ₂ ≡ true) (takes n q σ₂) tt tt (λ b. b)
          (λ b. let all : t ≡ record { length = 0; adds = 0 } = z.answers ∙ rw b refl in
          absurd (some (ap (λ (x : Block). x.length) all)))

      size : (n ≡ 15) ⊎ (n ≡ 16)
      size = run-sizes (drop i k₀) (took_some n q σ₂ took)

      few : n ≤ 16
      few = ⊎_elim (λ (e : n ≡ 15). omega arith) (λ (e : n ≡ 16). omega arith) size

      answers : t ≡ record { length = n; adds = run_adds n (row_of 16 s₂) }
      answers = z.answers ∙ rw took refl

      counted : σ' ≡ with_count σ (counted_more (n - 1) c₂)
      counted = z.counts ∙ rw took refl

      now : σ' ≡ ran n i σ
      now =
          let all : σ.count.visits + 1 + (n - 1) ≡ σ.count.visits + n = omega (arith, took_some n q σ₂ took) in
          counted ∙ ap (λ (c : Count). with_count σ (counted_more (n - 1) c)) now_counted
          ∙ ap (λ (k : ℕ). with_count σ (made_for i (visiting k σ.count.out σ.count))) all

      adds : q ≡ p + added_by σ.count.m (front σ.count l₀) (take i y) (zeros n)
      adds = block_adds σ.count.m (front σ.count l₀) y i s₂ more_than_16 at inside ready.long in_path rows n p size

      undropped : drops σ q ≡ false
      undropped = took_undropped n q σ₂ took

      put : y' ≡ paste y i (zeros 16) 16
      put = z.path ∙ rw took refl

      in_room : i + 16 ≤ length y
      in_room = room.path

      path : take (i + n) y' ≡ take i y ++ zeros n
      path = ap (take (i + n)) put ∙ zeros_path y i n 16 few in_room

      kept : Kept (front σ.count l₀) (ran n i σ) s₂ y' best second (i + n - 1)
      kept =
          let k = ready.kept in
          let begin : take i y ≡ take i y' =
          sym (sym (take-take i (i + n) y' (omega arith)) ∙ ap (take i) path ∙ take_at (take i y) (zeros n) i (length-take-le i y in_path)) in
          record {
            high = k.high;
            index_inside = inside;
            long_path = ap length put ∙ length-paste y i (zeros 16) 16 in_room (omega (arith, length-replicate {A = ℕ} 16 0)) ∙ k.long_path;
            bits = subst Bits (sym put) (zeros_bits y i 16 k.bits);
            both = k.both;
            sorted = k.sorted;
            rows = rows_for_on (i + n - 1) begin rows;
          }

      ends_n : i + n ≤ 2 ^ σ.count.m
      ends_n = omega (arith, ends, few)

      there : Onward (front σ.count l₀) (front σ.count k₀) from p₀ σ₀ y₀ best₀ second₀ i p σ y best second
      there =
          subst (λ (m : ℕ). Onward (take (2 ^ m) l₀) (take (2 ^ m) k₀) from p₀ σ₀ y₀ best₀ second₀ i p σ y best second)
          (sym r.onward.same_m) r.onward

      frozen : (j : ℕ) → j < n → get_or (front σ.count k₀) (i + j) 0 ≡ 0
      frozen j h =
          get_or-take (2 ^ σ.count.m) k₀ (i + j) 0 (omega (arith, ends_n, h)) ∙ sym (get_or-drop i k₀ j 0)
          ∙ run_frozen (drop i k₀) j h

      reached : Reached l₀ k₀ y₀ best₀ second₀ σ₀ from p₀ s₂ y' best second σ' (i + n) q
      reached =
          record {
            asked = record {
              ready = subst (λ (w : Progress). Ready (front w.count l₀) (front w.count k₀) s₂ y' best second (i + n) q w) (sym now)
                  (ready-run ready n ends_n adds undropped i path kept);
            };
            onward = subst (λ (w : Progress). Onward (front σ₀.count l₀) (front σ₀.count k₀) from p₀ σ₀ y₀ best₀ second₀ (i + n) q w y' best second) (sym now)
                (subst (λ (m : ℕ). Onward (take (2 ^ m) l₀) (take (2 ^ m) k₀) from p₀ σ₀ y₀ best₀ second₀
                (i + n) q (ran n i σ) y' best second) r.onward.same_m
                (onward-run ready n ends_n adds undropped i path frozen
                (omega (arith, took_allowed n q σ₂ took, one_more, same_allowed, took_some n q σ₂ took)) there));
          }

      -- as the code reads them from the answer
      pub zeros_reached : Reached l₀ k₀ y₀ best₀ second₀ σ₀ from p₀ s₂ y' best second σ' (i + t.length) (p + t.adds)
      zeros_reached = subst (λ (x : Block). Reached l₀ k₀ y₀ best₀ second₀ σ₀ from p₀ s₂ y' best second σ' (i + x.length) (p + x.adds)) (sym answers) reached

      pub zeros-more : 0 < t.length
      zeros-more = omega (arith, some)

      pub zeros-low : p + t.adds < 2 ^ 32
      zeros-low =
          omega (arith, ap (λ (x : Block). x.adds) answers, adds_size n (row_of 16 s₂), room.small, zeros_asked.low)
