-- Laws of the lines: a text after a text, decimals, and the rules' two lines.
use Rattle.std.specs.Prelude.{◌≡◌, refl, ℕ, zero, suc, ◌+◌, ◌-◌, ◌/◌, ◌%◌, ◌^◌, ◌≤◌, ◌<◌, length, take, drop}
use Rattle.std.proofs.Common.{ap, sym, ◌∙◌, ⊎_elim, arith, pow-suc, length-append, drop-drop, lt-ltb, le-ltb, set, add-one}
use mathlib.Core.List.{List, [], ◌∷◌, ◌++◌, append_assoc}
use Rattle.std.proofs.Math.Nat.{one-le-pow, pow-le-pow_right}
use Rattle.std.proofs.Math.Seq.{paste, take-length}
use Rattle.std.proofs.lemmas.List.{set_split}
use Rattle.std.proofs.lemmas.List.Edits.{take-paste, drop-paste, paste_all}
use Rattle.io.specs.Digits.{last_digits, IsDigitCount}
use Rattle.numbers.specs.Choice.{lt_or_le}
use Rattle.numbers.specs.Laid.{laid_at}
use Rattle.lines.specs.Line.{bytes_of, digit_byte, decimal_within, decimal, info_text, figures_text, answer_line, refused_line, total_line, Put, Puts}
use Rattle.lines.specs.declared.Text.{Text}

-- the two lines of the rules' example, and a refused one
pub record Lines : Type 0 where
  pub answered : answer_line 0 (0 ∷ 1 ∷ 1 ∷ []) 1 1 9 ≡ bytes_of "0 info 011 penalty 1 margin 1 visits 9\n"
  pub refused : refused_line 0 7 ≡ bytes_of "0 refused 7\n"
  pub total : total_line 1 0 ≡ bytes_of "1 read, 0 refused\n"
  pub empty : total_line 0 0 ≡ bytes_of "0 read, 0 refused\n"
  pub large : decimal 18446744073709551615 ≡ bytes_of "18446744073709551615"

pub lines : Lines
unfolding bytes_of decimal_within info_text figures_text answer_line refused_line total_line
lines = record { answered = refl; refused = refl; total = refl; empty = refl; large = refl }

laid_paste : (d : List ℕ) (at : ℕ) (t : List ℕ) → laid_at at t d ≡ paste d at t (length t)
laid_paste d at t = sym (paste_all d at t (length t) refl)

-- one text after another is both as one text
pub put_then : (d : List ℕ) (at : ℕ) (t : List ℕ) (end : ℕ) (d' u : List ℕ) (end' : ℕ) (d'' : List ℕ)
    → at ≤ length d → Put d at t end d' → Put d' end u end' d'' → Put d at (t ++ u) end' d''
put_then d at t end d' u end' d'' h p q =
    let n = length t in
    let front : take (at + n) (paste d at t n) ≡ take at d ++ t = take-paste d at t n h (omega arith) ∙ rw (take-length t) in
    let back : drop (at + n + length u) (paste d at t n) ≡ drop (at + n + length u) d =
    sym (drop-drop (length u) (at + n) (paste d at t n)) ∙ rw (drop-paste d at t n h (omega arith)) (drop-drop (length u) (at + n) d) in
    let k : at + n + length u ≡ at + length (t ++ u) = omega (arith, length-append t u) in
    let rest = drop (at + length (t ++ u)) d in
    record {
      end_is = q.end_is ∙ rw p.end_is k;
      text_is =
          q.text_is
          ∙ rw (p.text_is, p.end_is, laid_paste d at t, front, back, k, append_assoc (take at d) t (u ++ rest), append_assoc t u rest);
    }

-- the same of two calls on one buffer
pub puts_then : {s t u : Text} {x y : List ℕ} → s.at ≤ length s.out.now → Puts s t x → Puts t u y → Puts s u (x ++ y)
puts_then h p q =
    record {
      same_buffer = q.same_buffer ∙ p.same_buffer;
      same_length = q.same_length ∙ p.same_length;
      put = put_then _ _ _ _ _ _ _ _ h p.put q.put;
    }

-- one byte
put_one : (d : List ℕ) (at b : ℕ) → at < length d → Put d at (b ∷ []) (at + 1) (set d at b)
put_one d at b h = record { end_is = refl; text_is = rw add-one (set_split d at b h) }

-- in a loop that has put i bytes, before it says so
pub record Putting (old now : Text) (i : ℕ) (t : List ℕ) : Type 0 where
  pub same_buffer : now.out.ghost_name ≡ old.out.ghost_name
  pub same_length : length now.out.now ≡ length old.out.now
  pub same_place : now.at ≡ old.at
  pub put : Put old.out.now old.at t (old.at + i) now.out.now

-- and then one more
pub put_more : {old now : Text} {i : ℕ} {t : List ℕ} (b : ℕ) → Putting old now i t → old.at + i < length old.out.now
    → Put old.out.now old.at (t ++ b ∷ []) (old.at + (i + 1)) (set now.out.now (now.at + i) b)
put_more {old} {now} {i} b p h =
    let next : old.at + (i + 1) ≡ old.at + i + 1 = omega arith in
    rw (next, p.same_place)
    (put_then _ _ _ _ _ _ _ _ (omega arith) p.put (put_one now.out.now (old.at + i) b (omega (arith, p.same_length))))

-- the digits that the library's function writes are the decimal text
digits_decimal : (k j n : ℕ) → k < j → n < 10 ^ suc k → (0 < k → 10 ^ k ≤ n) → last_digits 10 (suc k) n ≡ decimal_within j n
unfolding decimal_within
digits_decimal k zero n h u l = absurd (omega arith)
digits_decimal zero (suc j) n h u l =
    let small : n < 10 = u in
    let m : n % 10 ≡ n = omega arith in
    rw (m, lt-ltb n 10 small)
digits_decimal (suc k) (suc j) n h u l =
    let large : 10 ≤ n = omega (arith, l (omega arith), pow-suc 10 k, one-le-pow k 10 (omega arith)) in
    rw (le-ltb n 10 large, lt-ltb (n % 10) 10 (omega arith))
    (ap (λ (t : List ℕ). t ++ digit_byte (n % 10) ∷ [])
    (digits_decimal k j (n / 10) (omega arith) (omega (arith, pow-suc 10 (suc k))) (λ z. omega (arith, l (omega arith), pow-suc 10 k))))

decimal-digits : (n k : ℕ) → k ≤ 20 → IsDigitCount 10 1 n k → last_digits 10 k n ≡ decimal n
decimal-digits n zero h f = absurd (omega (arith, f.0))
decimal-digits n (suc k) h f = digits_decimal k 20 n h f.1 (λ z. let e : suc k - 1 ≡ k = omega arith in rw e at (f.2 (omega arith)))

-- a number of 64 bits has no more than twenty digits
pub fewest_short : (n k : ℕ) → n < 2 ^ 64 → IsDigitCount 10 1 n k → k ≤ 20
fewest_short n k h f =
    ⊎_elim (λ z. absurd (omega (arith, f.2 (omega arith), pow-le-pow_right {n = 10} (omega arith) {i = 20} {j = k - 1} (omega arith))))
    (λ z. z)
    (lt_or_le 20 k)

-- the front of an array that holds k digits is the decimal text
pub digits_text : (n k : ℕ) (a : List ℕ) → n < 2 ^ 64 → IsDigitCount 10 1 n k → take k a ≡ last_digits 10 k n → take (k - 0) a ≡ decimal n
digits_text n k a h f e = let z : k - 0 ≡ k = omega arith in rw z (e ∙ decimal-digits n k (fewest_short n k h f) f)

puts_by : {s t : Text} {x y : List ℕ} → x ≡ y → Puts s t x → Puts s t y
puts_by e p = rw (← e) p

-- the figures of an answer, piece by piece
pub puts_figures : {s t u v z : Text} (penalty gap visits : ℕ) → s.at ≤ length s.out.now → Puts s t (bytes_of " penalty " ++ decimal penalty)
    → Puts t u (bytes_of " margin " ++ decimal gap) → Puts u v (bytes_of " visits " ++ decimal visits) → Puts v z (bytes_of "\n")
    → Puts s z (figures_text penalty gap visits)
unfolding figures_text
puts_figures penalty gap visits h p q r l = puts_by (simp append_assoc) (puts_then h (puts_then h (puts_then h p q) r) l)
