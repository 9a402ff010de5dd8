-- Laws of the tests by which a block of information indices is taken: what the code's answers say of one block, and of the largest.
use Rattle.std.specs.Prelude.{◌≡◌, refl, Bool, true, false, ◌&&◌, cond, not, ◌⊎◌, List, ℕ, suc, ◌+◌, ◌-◌, ◌*◌, ◌/◌, ◌%◌, ◌^◌, ◌≤◌, ◌<◌, ℤ, eqb, ltb}
use Rattle.std.proofs.Common.{ap, sym, ◌∙◌, subst, inl, inr, ⊎_elim, arith, add-mul, mul-le-mul_right, pow_mono, pow-add, shr_lt, eq-eqb, ne_eqb, ltb-true}
use Rattle.std.proofs.Math.Nat.{two-pow-succ}
use Rattle.std.proofs.Math.Pow.{split}
use Rattle.std.proofs.lemmas.Bool.{not-true, not-false}
use Rattle.numbers.specs.Choice.{lt_or_le}
use Rattle.blocks.specs.Information.{all_chosen, with_hard}
use Rattle.walk.specs.declared.progress.Count.{Count}
use Rattle.walk.specs.InformationBlocks.{hard_here, by_block, HardAsked, HardGiven, BlockGiven}

-- ---- where a block ends
pub lower_power : (m t : ℕ) → 2 ^ t < 2 ^ m → t < m
lower_power m t less = ⊎_elim (λ k. k) (λ k. absurd (omega (arith, less, pow_mono {i = m} {j = t} k))) (lt_or_le t m)

-- ---- a block of 2^t indices that starts at i: it ends with the last index or before
pub block_fits : (m t i : ℕ) → 2 ^ t < 2 ^ m → i % 2 ^ t ≡ 0 → i < 2 ^ m → i + 2 ^ t ≤ 2 ^ m
block_fits m t i less at inside =
    let e : m - t + t ≡ m = omega (arith, lower_power m t less) in
    let b = i / 2 ^ t in
    let few : b < 2 ^ (m - t) = shr_lt (m - t) t (rw e inside) in
    let whole : 2 ^ m ≡ 2 ^ (m - t) * 2 ^ t = ap (λ (k : ℕ). 2 ^ k) (sym e) ∙ pow-add 2 (m - t) t in
    let most : (b + 1) * 2 ^ t ≤ 2 ^ (m - t) * 2 ^ t = mul-le-mul_right (2 ^ t) (omega arith) in
    omega (arith, whole, most, add-mul b 1 (2 ^ t), split i t)

-- it lies in the arrays, and its row in the rows
pub hard_within : {c : Count} {i n : ℕ} (s : ℕ) → HardAsked c i → n ≡ 2 ^ s → i % n ≡ 0 → ltb n (2 ^ c.m) ≡ true → (i + n ≤ 256) × (n + n ≤ 256)
hard_within {c} {i} {n} s a is at less =
    let below : 2 ^ s < 2 ^ c.m = subst (λ (x : ℕ). x < 2 ^ c.m) is (ltb-true n (2 ^ c.m) less) in
    let begins : i % 2 ^ s ≡ 0 = subst (λ (x : ℕ). i % x ≡ 0) is at in (
      omega (arith, is, a.room, block_fits c.m s i below begins a.inside),
      omega (arith, is, a.room, two-pow-succ s, pow_mono {i = suc s} {j = c.m} (omega (arith, lower_power c.m s below))),
    )

-- ---- the three tests of one block, where k is its length too
second_fails : (a b c : Bool) → b ≡ false → (a && (b && c)) ≡ false
second_fails true b c e = ap (λ (x : Bool). x && c) e
second_fails false b c e = refl

third_fails : (a b c : Bool) → c ≡ false → (a && (b && c)) ≡ false
third_fails true true c e = e
third_fails true false c e = refl
third_fails false b c e = refl

abbrev starts : ℕ → ℕ → Bool
starts i n = eqb (i % n) 0

abbrev has-row : Count → ℕ → Bool
has-row c n = ltb n (2 ^ c.m)

module _ {kinds : List ℕ} {rows : List ℤ} {c : Count} {y : List ℕ} {i n s k : ℕ} (same : k ≡ n) where
  refused : hard_here kinds c i n ≡ false → HardGiven kinds rows c y i n s false y
  refused e = record { answers = sym e; puts = sym (ap (λ (b : Bool). cond b (with_hard n s i rows y) y) e) }

  pub not_start : (i % k ≡ 0 → ⊥) → HardGiven kinds rows c y i n s false y
  not_start h =
      refused (ap (λ (b : Bool). b && (has-row c n && all_chosen kinds i n)) (ne_eqb (i % n) 0 (λ z. h (ap (λ (x : ℕ). i % x) same ∙ z))))

  pub no_row : {r : Bool} → r ≡ ltb k (2 ^ c.m) → not r ≡ true → HardGiven kinds rows c y i n s false y
  no_row {r} e h =
      refused (second_fails (starts i n) (has-row c n) (all_chosen kinds i n)
      (sym (e ∙ ap (λ (x : ℕ). ltb x (2 ^ c.m)) same) ∙ not-true r h))

  pub not-all : {r : Bool} → r ≡ all_chosen kinds i k → not r ≡ true → HardGiven kinds rows c y i n s false y
  not-all {r} e h = refused (third_fails (starts i n) (has-row c n) (all_chosen kinds i n) (sym (e ∙ ap (all_chosen kinds i) same) ∙ not-true r h))

  pub all_pass : {r₁ r₂ : Bool} {y' : List ℕ} → i % k ≡ 0 → r₁ ≡ ltb k (2 ^ c.m) → not r₁ ≡ false
      → r₂ ≡ all_chosen kinds i k → not r₂ ≡ false → y' ≡ with_hard k s i rows y → HardGiven kinds rows c y i n s true y'
  all_pass {r₁} {r₂} at e₁ h₁ e₂ h₂ puts =
      let first : starts i n ≡ true = eq-eqb (i % n) 0 (ap (λ (x : ℕ). i % x) (sym same) ∙ at) in
      let second : has-row c n ≡ true = sym (e₁ ∙ ap (λ (x : ℕ). ltb x (2 ^ c.m)) same) ∙ not-false r₁ h₁ in
      let third : all_chosen kinds i n ≡ true = sym (e₂ ∙ ap (all_chosen kinds i) same) ∙ not-false r₂ h₂ in
      let here : hard_here kinds c i n ≡ true =
      ap (λ (b : Bool). b && (has-row c n && all_chosen kinds i n)) first ∙ ap (λ (b : Bool). b && all_chosen kinds i n) second ∙ third in
      record {
        answers = sym here;
        puts = puts ∙ ap (λ (x : ℕ). with_hard x s i rows y) same ∙ sym (ap (λ (b : Bool). cond b (with_hard n s i rows y) y) here);
      }

-- ---- one block, by the code's answer
module _ {kinds : List ℕ} {rows : List ℤ} {c : Count} {y : List ℕ} {i n s : ℕ} {r : Bool} {y' : List ℕ} (g : HardGiven kinds rows c y i n s r y') where
  taken_here : r ≡ true → hard_here kinds c i n ≡ true
  taken_here e = sym g.answers ∙ e

  left_here : r ≡ false → hard_here kinds c i n ≡ false
  left_here e = sym g.answers ∙ e

  taken_puts : r ≡ true → y' ≡ with_hard n s i rows y
  taken_puts e = g.puts ∙ ap (λ (b : Bool). cond b (with_hard n s i rows y) y) (taken_here e)

  left_path : r ≡ false → y' ≡ y
  left_path e = g.puts ∙ ap (λ (b : Bool). cond b (with_hard n s i rows y) y) (left_here e)

-- a smaller one, tried where no larger one was taken
tried_next : {kinds : List ℕ} {rows : List ℤ} {c : Count} {y y₁ : List ℕ} {i n s : ℕ} {r : Bool} {y' : List ℕ} → y₁ ≡ y
    → HardGiven kinds rows c y₁ i n s r y' → HardGiven kinds rows c y i n s r y'
tried_next {kinds} {rows} {c} {y} {y₁} {i} {n} {s} {r} {y'} e g = subst (λ (x : List ℕ). HardGiven kinds rows c x i n s r y') e g

-- ---- the largest block
module _ (kinds : List ℕ) (c : Count) (i : ℕ) {A : Type 0} (f : ℕ → ℕ → A) (none : A) where
  abbrev from_2 : A
  from_2 = cond (hard_here kinds c i 2) (f 2 1) none

  abbrev from_4 : A
  from_4 = cond (hard_here kinds c i 4) (f 4 2) from_2

  abbrev from_8 : A
  from_8 = cond (hard_here kinds c i 8) (f 8 3) from_4

  by_16 : hard_here kinds c i 16 ≡ true → by_block kinds c i f none ≡ f 16 4
  by_16 e = ap (λ (b : Bool). cond b (f 16 4) from_8) e

  module _ (no-16 : hard_here kinds c i 16 ≡ false) where
    past_16 : by_block kinds c i f none ≡ from_8
    past_16 = ap (λ (b : Bool). cond b (f 16 4) from_8) no-16

    by_8 : hard_here kinds c i 8 ≡ true → by_block kinds c i f none ≡ f 8 3
    by_8 e = past_16 ∙ ap (λ (b : Bool). cond b (f 8 3) from_4) e

    module _ (no-8 : hard_here kinds c i 8 ≡ false) where
      past_8 : by_block kinds c i f none ≡ from_4
      past_8 = past_16 ∙ ap (λ (b : Bool). cond b (f 8 3) from_4) no-8

      by_4 : hard_here kinds c i 4 ≡ true → by_block kinds c i f none ≡ f 4 2
      by_4 e = past_8 ∙ ap (λ (b : Bool). cond b (f 4 2) from_2) e

      module _ (no-4 : hard_here kinds c i 4 ≡ false) where
        past_4 : by_block kinds c i f none ≡ from_2
        past_4 = past_8 ∙ ap (λ (b : Bool). cond b (f 4 2) from_2) no-4

        by_2 : hard_here kinds c i 2 ≡ true → by_block kinds c i f none ≡ f 2 1
        by_2 e = past_4 ∙ ap (λ (b : Bool). cond b (f 2 1) none) e

        by_none : hard_here kinds c i 2 ≡ false → by_block kinds c i f none ≡ none
        by_none e = past_4 ∙ ap (λ (b : Bool). cond b (f 2 1) none) e

module _ {kinds : List ℕ} {rows : List ℤ} {c : Count} {y y₁ : List ℕ} {i : ℕ} {r : Bool} (g : HardGiven kinds rows c y i 16 4 r y₁) where
  pub given_16 : r ≡ true → BlockGiven kinds rows c y i 16 y₁
  given_16 e =
      let here = taken_here g e in
      record {
        answers = sym (by_16 kinds c i (λ n s. n) 1 here);
        puts = taken_puts g e ∙ sym (by_16 kinds c i (λ n s. with_hard n s i rows y) y here);
      }

  module _ (no-16 : r ≡ false) {y₂ : List ℕ} {r₂ : Bool} (g₂ : HardGiven kinds rows c y₁ i 8 3 r₂ y₂) where
    above : hard_here kinds c i 16 ≡ false
    above = left_here g no-16

    next_8 : HardGiven kinds rows c y i 8 3 r₂ y₂
    next_8 = tried_next (left_path g no-16) g₂

    pub given_8 : r₂ ≡ true → BlockGiven kinds rows c y i 8 y₂
    given_8 e =
        let here = taken_here next_8 e in
        record {
          answers = sym (by_8 kinds c i (λ n s. n) 1 above here);
          puts = taken_puts next_8 e ∙ sym (by_8 kinds c i (λ n s. with_hard n s i rows y) y above here);
        }

    module _ (no-8 : r₂ ≡ false) {y₃ : List ℕ} {r₃ : Bool} (g₃ : HardGiven kinds rows c y₂ i 4 2 r₃ y₃) where
      next : hard_here kinds c i 8 ≡ false
      next = left_here next_8 no-8

      next_4 : HardGiven kinds rows c y i 4 2 r₃ y₃
      next_4 = tried_next (left_path next_8 no-8) g₃

      pub given_4 : r₃ ≡ true → BlockGiven kinds rows c y i 4 y₃
      given_4 e =
          let here = taken_here next_4 e in
          record {
            answers = sym (by_4 kinds c i (λ n s. n) 1 above next here);
            puts = taken_puts next_4 e ∙ sym (by_4 kinds c i (λ n s. with_hard n s i rows y) y above next here);
          }

      module _ (no-4 : r₃ ≡ false) {y₄ : List ℕ} {r₄ : Bool} (g₄ : HardGiven kinds rows c y₃ i 2 1 r₄ y₄) where
        last : hard_here kinds c i 4 ≡ false
        last = left_here next_4 no-4

        next_2 : HardGiven kinds rows c y i 2 1 r₄ y₄
        next_2 = tried_next (left_path next_4 no-4) g₄

        pub given_2 : r₄ ≡ true → BlockGiven kinds rows c y i 2 y₄
        given_2 e =
            let here = taken_here next_2 e in
            record {
              answers = sym (by_2 kinds c i (λ n s. n) 1 above next last here);
              puts = taken_puts next_2 e ∙ sym (by_2 kinds c i (λ n s. with_hard n s i rows y) y above next last here);
            }

        pub given-none : r₄ ≡ false → BlockGiven kinds rows c y i 1 y₄
        given-none e =
            let here = left_here next_2 e in
            record {
              answers = sym (by_none kinds c i (λ n s. n) 1 above next last here);
              puts = left_path next_2 e ∙ sym (by_none kinds c i (λ n s. with_hard n s i rows y) y above next last here);
            }

-- an odd index starts no block
odd_none : (kinds : List ℕ) (c : Count) (i n : ℕ) → (i % n ≡ 0 → ⊥) → hard_here kinds c i n ≡ false
odd_none kinds c i n h = ap (λ (b : Bool). b && (has-row c n && all_chosen kinds i n)) (ne_eqb (i % n) 0 h)

pub given_odd : {kinds : List ℕ} {rows : List ℤ} {c : Count} {y : List ℕ} {i : ℕ} → (i % 2 ≡ 0 → ⊥) → BlockGiven kinds rows c y i 1 y
given_odd {kinds} {rows} {c} {y} {i} odd =
    let a = odd_none kinds c i 16 (λ z. odd (omega (arith, z))) in
    let b = odd_none kinds c i 8 (λ z. odd (omega (arith, z))) in
    let f = odd_none kinds c i 4 (λ z. odd (omega (arith, z))) in
    let d = odd_none kinds c i 2 odd in
    record {
      answers = sym (by_none kinds c i (λ n s. n) 1 a b f d);
      puts = sym (by_none kinds c i (λ n s. with_hard n s i rows y) y a b f d);
    }

-- a block of n = 2^size indices is taken
pub record BlockTaken (kinds : List ℕ) (rows : List ℤ) (c : Count) (y : List ℕ) (i n : ℕ) (y' : List ℕ) : Type 0 where
  pub size : ℕ
  pub is : n ≡ 2 ^ size
  pub here : hard_here kinds c i n ≡ true
  pub puts : y' ≡ with_hard n size i rows y

either : (b : Bool) → (b ≡ true) ⊎ (b ≡ false)
either true = inl refl
either false = inr refl

-- one is taken, or index i alone, and nothing changes
module _ {kinds : List ℕ} {rows : List ℤ} {c : Count} {y : List ℕ} {i n : ℕ} {y' : List ℕ} where
  taken_of : (k s : ℕ) → k ≡ 2 ^ s → hard_here kinds c i k ≡ true → n ≡ k → y' ≡ with_hard k s i rows y → BlockTaken kinds rows c y i n y'
  taken_of k s e here is puts =
      subst (λ (x : ℕ). BlockTaken kinds rows c y i x y') (sym is) (record { size = s; is = e; here = here; puts = puts })

  pub block-or-one : BlockGiven kinds rows c y i n y' → BlockTaken kinds rows c y i n y' ⊎ ((n ≡ 1) × (y' ≡ y))
  block-or-one b =
      let length : ℕ → ℕ → ℕ = λ n s. n in
      let path : ℕ → ℕ → List ℕ = λ n s. with_hard n s i rows y in
      ⊎_elim
      (λ (a : hard_here kinds c i 16 ≡ true). inl (taken_of 16 4 refl a (b.answers ∙ by_16 kinds c i length 1 a) (b.puts ∙ by_16 kinds c i path y a)))
      (λ (a : hard_here kinds c i 16 ≡ false).
      ⊎_elim
      (λ (f : hard_here kinds c i 8 ≡ true). inl (taken_of 8 3 refl f (b.answers ∙ by_8 kinds c i length 1 a f) (b.puts ∙ by_8 kinds c i path y a f)))
      (λ (f : hard_here kinds c i 8 ≡ false).
      ⊎_elim
      (λ (d : hard_here kinds c i 4 ≡ true).
      inl (taken_of 4 2 refl d (b.answers ∙ by_4 kinds c i length 1 a f d) (b.puts ∙ by_4 kinds c i path y a f d)))
      (λ (d : hard_here kinds c i 4 ≡ false).
      ⊎_elim
      (λ (e : hard_here kinds c i 2 ≡ true).
      inl (taken_of 2 1 refl e (b.answers ∙ by_2 kinds c i length 1 a f d e) (b.puts ∙ by_2 kinds c i path y a f d e)))
      (λ (e : hard_here kinds c i 2 ≡ false). inr (b.answers ∙ by_none kinds c i length 1 a f d e, b.puts ∙ by_none kinds c i path y a f d e))
      (either (hard_here kinds c i 2)))
      (either (hard_here kinds c i 4)))
      (either (hard_here kinds c i 8)))
      (either (hard_here kinds c i 16))

  -- it has 16 indices at the most, and one at the least
  pub block-length : BlockGiven kinds rows c y i n y' → (0 < n) × (n ≤ 16)
  block-length b =
      subst (λ (k : ℕ). (0 < k) × (k ≤ 16)) (sym b.answers)
      (either_short (hard_here kinds c i 16) (omega arith, omega arith)
      (either_short (hard_here kinds c i 8) (omega arith, omega arith)
      (either_short (hard_here kinds c i 4) (omega arith, omega arith)
      (either_short (hard_here kinds c i 2) (omega arith, omega arith) (omega arith, omega arith)))))
    where
      either_short : (b : Bool) {x y : ℕ} → (0 < x) × (x ≤ 16) → (0 < y) × (y ≤ 16) → (0 < cond b x y) × (cond b x y ≤ 16)
      either_short true h k = h
      either_short false h k = k
