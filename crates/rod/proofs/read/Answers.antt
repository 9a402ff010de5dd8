-- `read`: what was found is judged, what was refused is passed on.
use Rattle.std.specs.Prelude.{◌≡◌, refl, ℕ, ◌+◌, ◌-◌, ◌^◌, ◌≤◌, List, drop, replicate}
use Rattle.std.proofs.Common.{rules, ap, sym, ◌∙◌, arith, pow_mono, length-append}
use Rattle.code.specs.Sound.{largest_m}
use Rattle.search.specs.Outcome.{found_with}
use Rattle.guarded.specs.Outcome as guard
use Rattle.rod.specs.Outcome.{rod_search, position_said}
use Rattle.rod.specs.WorkLaws.{Made, is_made}
use Rattle.rod.specs.OutcomeLaws.{reading_unmade, reading-refused, found_bits, found-reading, rod_lent, front-is, front-found}
use Rattle.rod.proofs.read.Goals as goal
use Rattle.rod.proofs.read.Goals.{In_ok-code, After-length-n, In_ok-found}

pub returns-in_err-code : goal.returns-in_err-code
returns-in_err-code c =
    let s = c.args in
    let e = reading_unmade s.m s.readings.now (sym c.new.ensures ∙ c.in_err-code.was) in
    search rules

-- the code that was made, and its length
code_is : (c : In_ok-code) → Made c.args.m c.in_ok-code.code
code_is c = is_made _ _ (sym c.new.ensures ∙ c.in_ok-code.was)

long : (c : After-length-n) → Made c.args.m c.in_ok-code.code → c.length-n.result ≡ 2 ^ c.args.m
long c made = c.length-n.ensures ∙ ap (λ (k : ℕ). 2 ^ k) made.same-m

pub length-n-requires : goal.length-n-requires
length-n-requires c = (code_is (goal.at.length-n-requires c).In_ok-code).sound

pub slice_bounds-bits-end : goal.slice_bounds-bits-end
slice_bounds-bits-end c = let made = code_is (goal.at.slice_bounds-bits-end c).In_ok-code in omega (arith, made.small)

pub slice_bounds-word-end : goal.slice_bounds-word-end
slice_bounds-word-end c =
    let at = goal.at.slice_bounds-word-end c in
    let made = code_is at.In_ok-code in
    let most : 2 ^ c.args.m ≤ 256 = pow_mono {j = 8} made.small in
    omega (arith, most, long at.After-length-n made)

pub returns-in_err-found : goal.returns-in_err-found
returns-in_err-found c =
    let s = c.args in
    let at = goal.at.returns-in_err-found c in
    let made = code_is at.In_ok-code in
    let e =
    reading-refused s.m s.readings.now c.in_err-found.field-0.0 _ _
    ((rw c.in_err-found.was at c.first_order.ensures) ∙ rod_lent s.m _ _ s.readings.now made.small refl (long at.After-length-n made)) in
    search rules

-- what was found, in the reader's own buffers
found_is : (c : In_ok-found) → c.args.m ≤ largest_m → c.length-n.result ≡ 2 ^ c.args.m
    → let f = c.in_ok-found.found in
    found_with f.penalty f.gap f.visits c.first_order.new.bits c.first_order.new.word ≡ rod_search c.args.m c.args.readings.now
found_is c small is = (rw c.in_ok-found.was at c.first_order.ensures) ∙ rod_lent c.args.m _ _ c.args.readings.now small refl is

-- the rest of the bits' array, behind those that were lent
abbrev rest : ℕ → List ℕ
rest m = drop (m + 1 - 0) (replicate {A = ℕ} 9 0)

pub slice_bounds-judge-end : goal.slice_bounds-judge-end
slice_bounds-judge-end c =
    let s = c.args in
    let f = c.in_ok-found.found in
    let at = goal.at.slice_bounds-judge-end c in
    let made = code_is at.In_ok-code in
    let good = found_bits s.m s.readings.now f.penalty f.gap f.visits _ _ (found_is c made.small (long at.After-length-n made)) in
    omega (arith, good.1, length-append c.first_order.new.bits (rest s.m))

pub judge-requires : goal.judge-requires
judge-requires c =
    let s = c.args in
    let f = c.in_ok-found.found in
    let at = goal.at.judge-requires c in
    let made = code_is at.In_ok-code in
    let good = found_bits s.m s.readings.now f.penalty f.gap f.visits _ _ (found_is at.In_ok-found made.small (long at.After-length-n made)) in
    let front = front-found s.m c.first_order.new.bits (rest s.m) good in
    (front.0, front.1, made.small)

pub returns : goal.returns
returns c =
    let s = c.args in
    let f = c.in_ok-found.found in
    let at = goal.at.returns c in
    let made = code_is at.In_ok-code in
    let found = found_is at.In_ok-found made.small (long at.After-length-n made) in
    let good = found_bits s.m s.readings.now f.penalty f.gap f.visits _ _ found in
    c.judge.ensures
    ∙ ap (λ (x : List ℕ). position_said (guard.message_if x f.penalty f.gap 0 (replicate s.m 0))) (front-is s.m c.first_order.new.bits (rest s.m) good.1)
    ∙ found-reading s.m s.readings.now f.penalty f.gap f.visits _ _ found
