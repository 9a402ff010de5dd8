-- The demands, sentence by sentence in their order, over the definitions that the public contracts cite. That they are met is proved in DemandsMet.
-- The words of a set are those of any row of kinds; RM(r,m) is the row `kinds r m`.
use Rattle.std.specs.Prelude.{◌≡◌, ◌↔◌, List, [], map, ℕ, ◌+◌, ◌^◌, ◌≤◌, ◌<◌, length, ℤ, neg_ℤ}
use Rattle.numbers.specs.Sums.{sum}
use Rattle.words.specs.Bits.{Bits, xors}
use Rattle.words.specs.Word.{word_by_index, word_by_matrix}
use Rattle.words.specs.Kinds.{kinds, dimension, fill, encoded, InformationBits, Word, all_ones}
use Rattle.words.specs.Polynomial.{Polynomial}
use Rattle.words.specs.Inverse.{taken, frozen_one, LowestFrozenOne, taken_back}
use Rattle.decoding.specs.Readings.{penalty, turns, Within}
use Rattle.decoding.specs.Best.{penalty_of, least_penalty, gap, TwoWords}
use Rattle.decoding.specs.Walk.{start, needed, tree, NeverZero}
use Rattle.decoding.specs.Answer.{Answer, found, tied, out_of_visits, answer}

-- ---- Demand 1
-- Any numbers at all may be handed in. Wrong parameters, lengths or entries get the refusal that the rules name; every refusal leaves the lent buffers
-- unchanged; every call ends. The contract of each public call requires nothing and fixes answer and buffers for all input by one equation; that refusals are
-- those that the rules name is `Demand1` of the crate `code`, which the outcomes of each call meet.

-- ---- Demand 2
-- Encoding and taking the information back follow the published definition.
pub record Published (m : ℕ) (ks : List ℕ) : Type 0 where
  -- the bits fill a row u; word bit x_j is the sum modulo 2 of all u_i where every one-bit of j is also a one-bit of i; this is u times the Kronecker power
  pub by_index : (b : List ℕ) → InformationBits ks b → encoded m ks b ≡ word_by_index m (fill ks b)
  pub by_matrix : (b : List ℕ) → InformationBits ks b → encoded m ks b ≡ word_by_matrix m (fill ks b)
  -- from n bits, exactly the information bits that give them are taken back
  pub taking_back_lem : (x b : List ℕ) → length x ≡ 2 ^ m → Bits x → (taken_back m ks x ≡ taken b) ↔ (InformationBits ks b × (encoded m ks b ≡ x))
  -- they are refused exactly if no information bits give them, and the place is the lowest frozen index where the row that they come from is 1
  pub refusing : (x : List ℕ) → length x ≡ 2 ^ m → Bits x → ((i : ℕ) × (taken_back m ks x ≡ frozen_one i)) ↔ (Word m ks x → ⊥)
  pub place : (x : List ℕ) (i : ℕ) → length x ≡ 2 ^ m → Bits x → (taken_back m ks x ≡ frozen_one i) ↔ LowestFrozenOne ks (word_by_index m x) i

-- for RM(r,m): k is the sum of binomials, and the words are the value tables of polynomials of degree at most r
pub record PublishedCode (r m : ℕ) : Type 0 where
  pub k-is : sum (kinds r m) ≡ dimension r m
  pub words_are : (x : List ℕ) → Word m (kinds r m) x ↔ Polynomial r m x

-- The search returns the one codeword with the least penalty, that penalty, and the gap to the next best, by a definition that knows nothing of the search.
-- The bits b give the word x of penalty p; every other word's penalty is at least p + g, which one has; g is above 0, so x is the only word with p or less.
pub record BestFound (m : ℕ) (ks : List ℕ) (l : List ℤ) (b x : List ℕ) (p g : ℕ) : Type 0 where
  pub information : InformationBits ks b
  pub gives : encoded m ks b ≡ x
  pub has : penalty l x ≡ p
  pub above : 0 < g
  pub others : (c : List ℕ) → InformationBits ks c → (c ≡ b → ⊥) → p + g ≤ penalty_of m ks l c
  pub next : (c : List ℕ) × InformationBits ks c × (c ≡ b → ⊥) × (penalty_of m ks l c ≡ p + g)

-- no word has less than p, and two have it
pub record BestTied (m : ℕ) (ks : List ℕ) (l : List ℤ) (p : ℕ) : Type 0 where
  pub none_less : (c : List ℕ) → InformationBits ks c → p ≤ penalty_of m ks l c
  pub two : TwoWords m ks l p p

-- Once the input is sound it refuses as out of visits exactly if the written walk needs more than the caller allowed, and otherwise as tied exactly if the
-- gap is zero. The visits reported are those that the written walk needs.
abbrev pub Demand2 : ℕ → List ℕ → List ℤ → ℕ → Answer → Type 0
Demand2 m ks l allowed (found b x p g visits) = (needed m ks l ≤ allowed) × BestFound m ks l b x p g × (visits ≡ needed m ks l)
Demand2 m ks l allowed (tied p visits) = (needed m ks l ≤ allowed) × BestTied m ks l p × (visits ≡ needed m ks l)
Demand2 m ks l allowed out_of_visits = allowed < needed m ks l

-- ---- Demand 3
-- both tied with the same penalty, or both found with the same penalty and gap, the second's bits and word the first's plus those of the word c, modulo 2
pub data Together (bits c : List ℕ) : Answer → Answer → Type 0 where
  both_tied : (penalty visits visits' : ℕ) → Together bits c (tied penalty visits) (tied penalty visits')
  both_found : (b x : List ℕ) (penalty gap visits visits' : ℕ)
      → Together bits c (found b x penalty gap visits) (found (xors b bits) (xors x c) penalty gap visits')

-- the answer with c and its bits added: the same penalty, gap and visits, and out of visits as before
abbrev pub plus_word : List ℕ → List ℕ → Answer → Answer
plus_word bits c (found b x penalty gap visits) = found (xors b bits) (xors x c) penalty gap visits
plus_word bits c (tied penalty visits) = tied penalty visits
plus_word bits c out_of_visits = out_of_visits

pub record Demand3 (m : ℕ) (ks : List ℕ) (l : List ℤ) (c bits : List ℕ) : Type 0 where
  -- Take any allowed readings and any codeword, and negate the readings where that codeword has a one: they are as many, and allowed.
  pub same_length : length (turns c l) ≡ length l
  pub readings_allowed : (largest : ℕ) → Within largest l → Within largest (turns c l)
  -- If both walks stay within their allowance, both are tied, or both answer, with equal penalty and gap, and the second word and information bits are
  -- the first ones plus that codeword's, modulo 2.
  pub together : (allowed allowed' : ℕ) → (answer m ks l allowed ≡ out_of_visits → ⊥) → (answer m ks (turns c l) allowed' ≡ out_of_visits → ⊥)
      → Together bits c (answer m ks l allowed) (answer m ks (turns c l) allowed')
  -- If the first walk, run without a limit, never meets a value of zero at an information position, the second needs exactly as many visits, so under the same
  -- allowance both run out or neither does. Everything else is as above.
  pub same_visits : NeverZero m l ks [] 0 start → needed m ks (turns c l) ≡ needed m ks l
  pub both_run_out : NeverZero m l ks [] 0 start → (allowed : ℕ) → (answer m ks (turns c l) allowed ≡ out_of_visits) ↔ (answer m ks l allowed ≡ out_of_visits)
  pub same_answer : NeverZero m l ks [] 0 start → (allowed : ℕ) → answer m ks (turns c l) allowed ≡ plus_word bits c (answer m ks l allowed)

-- By the all-ones word, if it is a word of the set, all readings are negated: as many visits and the same answer, with no premise at all.
pub record Demand3AllOnes (m : ℕ) (ks : List ℕ) (l : List ℤ) (bits : List ℕ) : Type 0 where
  pub all-negated : turns (all_ones m) l ≡ map neg_ℤ l
  pub same_visits : needed m ks (map neg_ℤ l) ≡ needed m ks l
  pub same_answer : (allowed : ℕ) → answer m ks (map neg_ℤ l) allowed ≡ plus_word bits (all_ones m) (answer m ks l allowed)

-- ---- all of them, over the words of ks and the readings l
pub record Demands (m : ℕ) (ks : List ℕ) (l : List ℤ) : Type 0 where
  pub published : Published m ks
  -- the answer is the one that demand 2 allows, and no other
  pub demand_2 : (allowed : ℕ) (a : Answer) → (answer m ks l allowed ≡ a) ↔ Demand2 m ks l allowed a
  pub gap-zero : (gap m ks l ≡ 0) ↔ BestTied m ks l (least_penalty m ks l)
  pub demand_3 : (c : List ℕ) (w : Word m ks c) → Demand3 m ks l c w.bits
  -- An allowance as large as the whole tree is never too small.
  pub whole_tree : (allowed : ℕ) → tree ks ≤ allowed → answer m ks l allowed ≡ out_of_visits → ⊥
  -- and what demand 3 does not ask for
  pub demand_3_all_ones : (w : Word m ks (all_ones m)) → Demand3AllOnes m ks l w.bits
