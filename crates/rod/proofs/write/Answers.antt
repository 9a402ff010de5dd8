-- `write`: the tests 1, 3 and 16, then the word of the transform with the sign that makes the marker 0.
use Rattle.std.specs.Prelude.{◌≡◌, ℕ, ◌%◌, ◌^◌, ◌<◌}
use Rattle.std.proofs.Common.{rules, ap, sym, ◌∙◌, arith}
use Rattle.words.specs.BitLaws.{ones-counted}
use Rattle.hadamard.specs.Hadamard.{first_order}
use Rattle.guarded.specs.declared.Fault.{Fault}
use Rattle.guarded.specs.Written.{done, refused}
use Rattle.rod.specs.WorkLaws.{writing_unmade, writing_short, writing_large, writing-done, Made, is_made}
use Rattle.rod.specs.TheoremsMet.{rod_word_lem}
use Rattle.rod.proofs.write.Goals as goal
use Rattle.rod.proofs.write.Goals.{In_ok-code, After-length-n}

pub returns-in_err-code : goal.returns-in_err-code
returns-in_err-code c =
    let s = c.args in
    let e = writing_unmade s.m s.position s.word.now (sym c.new.ensures ∙ c.in_err-code.was) in
    search rules

-- the code that was made, and its length
code_is : (c : In_ok-code) → Made c.args.m c.in_ok-code.code
code_is c = is_made _ _ (sym c.new.ensures ∙ c.in_ok-code.was)

long : (c : After-length-n) → Made c.args.m c.in_ok-code.code → c.length-n.result ≡ 2 ^ c.args.m
long c made = c.length-n.ensures ∙ ap (λ (k : ℕ). 2 ^ k) made.same-m

pub length-n-requires : goal.length-n-requires
length-n-requires c = (code_is c).sound

pub returns-then-word-n : goal.returns-then-word-n
returns-then-word-n c =
    let s = c.args in
    let at = goal.at.returns-then-word-n c in
    let made = code_is at.In_ok-code in
    ap (λ (why : Fault). refused why s.word.now) c.into.ensures
    ∙ sym (writing_short s.m s.position s.word.now made.some made.small (λ e. c.if-word-n.true (e ∙ sym (long at.After-length-n made))))

pub returns-then-n-place : goal.returns-then-n-place
returns-then-n-place c =
    let s = c.args in
    let at = goal.at.returns-then-n-place c in
    let made = code_is at.In_ok-code in
    let is = long at.After-length-n made in
    sym (writing_large s.m s.position s.word.now made.some made.small (c.if-word-n.false ∙ is) (omega (arith, c.if-n-place.true, is)))

pub put_word-requires : goal.put_word-requires
put_word-requires c =
    let at = goal.at.put_word-requires c in
    let made = code_is at.In_ok-code in
    (c.if-word-n.false ∙ long at.After-length-n made, made.small, omega arith)

pub returns : goal.returns
returns c =
    let s = c.args in
    let m = s.m in
    let at = goal.at.returns c in
    let made = code_is at.In_ok-code in
    let is = long at.After-length-n made in
    let small : s.position < 2 ^ m = omega (arith, c.if-n-place.false, is) in
    ap done
    (c.put_word.ensures
    ∙ ap (λ (k : ℕ). first_order m s.position (k % 2)) (ones-counted m s.position small)
    ∙ sym (rod_word_lem m s.position small))
    ∙ sym (writing-done m s.position s.word.now made.some made.small (c.if-word-n.false ∙ is) small)
