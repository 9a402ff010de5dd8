-- Laws of eight bits as one number: all 256 rows of eight bits are computed. Three layers on them at once are their transform.
use Rattle.std.specs.Prelude.{◌≡◌, refl, List, [], ◌∷◌, ℕ, zero, suc, ◌*◌, ◌^◌, ◌≤◌, length, get_or, take}
use Rattle.std.proofs.Common.{ap, sym, ◌∙◌, arith, suc-ne-zero, get_or-take, length-take-le}
use Rattle.std.proofs.Math.Nat.{suc_inj}
use Rattle.numbers.specs.Sums.{total, tabulate}
use Rattle.numbers.specs.SumsLaws.{total_same}
use Rattle.words.specs.Bits.{Bits}
use Rattle.words.specs.Word.{transform}
use Rattle.words.specs.TransformLaws.{bits_take}
use Rattle.bit_rows.specs.Eight.{packed, unpacked, bytes_added, pairs_added, fours_added}

-- ---- a function's results for all rows of n bits, in a table
abbrev Table : ℕ → Type 0
Table zero = List ℕ
Table (suc n) = Table n × Table n

abbrev table : (n : ℕ) → (List ℕ → List ℕ) → Table n
table zero f = f []
table (suc n) f = (table n (λ l. f (0 ∷ l)), table n (λ l. f (1 ∷ l)))

-- of one table, of one result
same_table : (n : ℕ) (f g : List ℕ → List ℕ) → table n f ≡ table n g → (l : List ℕ) → length l ≡ n → Bits l → f l ≡ g l
same_table zero f g e [] long bits = e
same_table zero f g e (b ∷ l) long bits = absurd (suc-ne-zero (length l) long)
same_table (suc n) f g e [] long bits = absurd (suc-ne-zero n (sym long))
same_table (suc n) f g e (zero ∷ l) long bits =
    same_table n (λ k. f (0 ∷ k)) (λ k. g (0 ∷ k)) (ap (λ (t : Table (suc n)). t.0) e) l (suc_inj long) (λ i. bits (suc i))
same_table (suc n) f g e (suc zero ∷ l) long bits =
    same_table n (λ k. f (1 ∷ k)) (λ k. g (1 ∷ k)) (ap (λ (t : Table (suc n)). t.1) e) l (suc_inj long) (λ i. bits (suc i))
same_table (suc n) f g e (suc (suc b) ∷ l) long bits = absurd (omega (arith, bits 0))

-- ---- three layers at once
abbrev pub three_layers : List ℕ → List ℕ
three_layers x = unpacked (fours_added (pairs_added (bytes_added (packed x))))

all_eights : table 8 three_layers ≡ table 8 (transform 3)
unfolding packed unpacked total tabulate transform
all_eights = refl

packed-front : (x : List ℕ) → packed x ≡ packed (take 8 x)
unfolding packed
packed-front x = total_same (λ i. get_or x i 0 * 256 ^ i) (λ i. get_or (take 8 x) i 0 * 256 ^ i) 8
    (λ i h. ap (λ (b : ℕ). b * 256 ^ i) (sym (get_or-take 8 x i 0 h)))

pub eight_word : (x : List ℕ) → 8 ≤ length x → Bits x → three_layers x ≡ transform 3 (take 8 x)
eight_word x h bits =
    ap (λ (n : ℕ). unpacked (fours_added (pairs_added (bytes_added n)))) (packed-front x)
    ∙ same_table 8 three_layers (transform 3) all_eights (take 8 x) (length-take-le 8 x h) (bits_take 8 x bits)

-- ---- eight bits are the bytes of their number
all-unpacked : table 8 (λ x. unpacked (packed x)) ≡ table 8 (λ x. x)
unfolding packed unpacked total tabulate
all-unpacked = refl

pub eight_unpacked : (x : List ℕ) → 8 ≤ length x → Bits x → take 8 x ≡ unpacked (packed x)
eight_unpacked x h bits =
    sym (same_table 8 (λ l. unpacked (packed l)) (λ l. l) all-unpacked (take 8 x) (length-take-le 8 x h) (bits_take 8 x bits))
    ∙ ap unpacked (sym (packed-front x))
