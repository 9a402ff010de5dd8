-- The theorems on guarded words hold, for every search that meets the demands.
use Rattle.std.specs.Prelude.{◌≡◌, refl, List, [], ◌∷◌, ℕ, suc, ◌+◌, ◌-◌, ◌^◌, ◌≤◌, ◌<◌, ℤ, length, replicate}
use Rattle.std.proofs.Common.{ap, ap₂, sym, ◌∙◌, subst, arith, length-take-le}
use Rattle.std.proofs.Math.IntN.{neg_ℤ-neg_ℤ}
use Rattle.std.proofs.lemmas.List.{length-replicate}
use Rattle.numbers.specs.Sums.{sum}
use Rattle.words.specs.Bits.{Bits}
use Rattle.words.specs.Kinds.{encoded, InformationBits, all_ones}
use Rattle.words.specs.Inverse.{TakenBack, taken, frozen_one, taken_back}
use Rattle.words.proofs.InverseLaws.{taken_encoded}
use Rattle.words.specs.TransformLaws.{bits_more, bits_take}
use Rattle.decoding.specs.Walk.{needed}
use Rattle.decoding.specs.Answer.{Answer, found, tied, out_of_visits, answer}
use Rattle.decoding.specs.Demands.{BestFound}
use Rattle.decoding.proofs.DemandsMet.{demands}
use Rattle.code.specs.declared.Refusal.TheVariants.{OutOfVisits}
use Rattle.search.specs.Outcome as Search
use Rattle.search.specs.Outcome.{by_answer}
use Rattle.search.specs.Demands.{Searching, Passes, PlusWord}
use Rattle.guarded.specs.declared.Fault.TheVariants.{Link, Marker}
use Rattle.guarded.specs.Guard.{with_marker, guarded_bits, last_bit, message_of}
use Rattle.guarded.specs.Outcome.{GuardedOutcome, message_shown, no_message, guarded}
use Rattle.guarded.specs.Theorems.{turned, own_search, reading, Guards, Finds, ReadWritten, TurnedOver, GuardTheorems}
use Rattle.guarded.proofs.MarkerLaws.{last_split, length_with, marker_with, message_with, some-information}
use Rattle.guarded.proofs.GuardLaws.{guarded-shown, guarded-refused, shown-found, marked_found, passed_on_lem, then_marked, then_shown}
use Rattle.guarded.proofs.NoiseLaws.{noise_corrected}

pub turned-twice : (l : List ℤ) → turned (turned l) ≡ l
turned-twice [] = refl
turned-twice (x ∷ l) = ap₂ ◌∷◌ (neg_ℤ-neg_ℤ x) (turned-twice l)

taken_bits : TakenBack → List ℕ
taken_bits (taken b) = b
taken_bits (frozen_one i) = []

-- no two information bits give the same word
pub bits_only : (m : ℕ) (ks b b' : List ℕ) → length ks ≡ 2 ^ m → Bits ks → InformationBits ks b → InformationBits ks b'
    → encoded m ks b ≡ encoded m ks b' → b ≡ b'
unfolding taken_bits
bits_only m ks b b' long are i i' e =
    let back : (c : List ℕ) → InformationBits ks c → taken_back m ks (encoded m ks c) ≡ taken c = λ c j. taken_encoded m ks c long are j.0 j.1 in
    ap taken_bits (sym (back b i) ∙ ap (taken_back m ks) e ∙ back b' i')

-- ---- what a search finds, by its demands
pub record FoundBest (s : Searching) (allowed : ℕ) (l : List ℤ) (bits word : List ℕ) : Type 0 where
  pub passes : Passes s l bits word
  pub enough : needed s.code.m s.kinds l ≤ allowed
  pub best : let o = s.by allowed l bits word in BestFound s.code.m s.kinds l o.bits o.word o.penalty o.gap
  pub visits_are : (s.by allowed l bits word).visits ≡ needed s.code.m s.kinds l

module _ (s : Searching) (g : Guards s) (allowed : ℕ) (l : List ℤ) (bits word : List ℕ) (n : (s.by allowed l bits word).number ≡ 0) where
  by_answer_lem : (a : Answer) → s.by allowed l bits word ≡ by_answer allowed bits word a → FoundBest s allowed l bits word
  by_answer_lem (found b w p q v) e =
      let x = g.found-passes allowed l bits word n in
      let d = ((g.demands l bits word x).demand_2 allowed (found b w p q v)).0 e in
      record { passes = x; enough = d.0; best = rw e d.1; visits_are = rw e d.2 }
  by_answer_lem (tied p v) e = absurd (omega (arith, n, ap (λ (o : Search.Outcome). o.number) e))
  by_answer_lem out_of_visits e = absurd (omega (arith, n, ap (λ (o : Search.Outcome). o.number) e))

  pub found_all : FoundBest s allowed l bits word
  found_all =
      let m = s.code.m in
      let ks = s.kinds in
      let x = g.found-passes allowed l bits word n in
      let some = some-information m ks g.long_kinds g.are_kinds g.all_ones_lem in
      let is = ((demands m ks l x.entries.long g.long_kinds g.are_kinds some).demand_2 allowed (answer m ks l allowed)).0 refl in
      by_answer_lem (answer m ks l allowed) (((g.demands l bits word x).demand_2 allowed (answer m ks l allowed)).1 is)

-- ---- the same readings negated
module _ (s : Searching) (g : Guards s) (allowed : ℕ) (l : List ℤ) (room : List ℕ) (n : (own_search s allowed l room).number ≡ 0) where
  abbrev own : FoundBest s allowed l (replicate (suc (length room)) 0) (replicate (2 ^ s.code.m) 0)
  own = found_all s g allowed l (replicate (suc (length room)) 0) (replicate (2 ^ s.code.m) 0) n

  plus : PlusWord g.all_ones_lem.bits (all_ones s.code.m) (own_search s allowed l room) (own_search s allowed (turned l) room)
  plus =
      let b : List ℕ = replicate (suc (length room)) 0 in
      let w : List ℕ = replicate (2 ^ s.code.m) 0 in
      let x = own.passes in
      (((g.demands l b w x).demand_3_all_ones g.all_ones_lem b w x.long_bits x.long_word).same_search allowed).0

  turned_marked : last_bit (own_search s allowed l room).bits ≡ 0 → reading s allowed (turned l) room ≡ no_message Marker room
  turned_marked =
      then_marked s.code.m s.kinds g.long_kinds g.are_kinds g.all_ones_lem (own_search s allowed l room) (own_search s allowed (turned l) room)
      plus n own.best.information room

  turned-shown : (last_bit (own_search s allowed l room).bits ≡ 0 → ⊥) → (reading s allowed (turned l) room).carry.number ≡ 0
  turned-shown =
      then_shown s.code.m s.kinds g.long_kinds g.are_kinds g.all_ones_lem (own_search s allowed l room) (own_search s allowed (turned l) room)
      plus n own.best.information room

module _ (s : Searching) (g : Guards s) (room : List ℕ) where
  abbrev shows : ℕ → List ℤ → ℕ
  shows allowed l = (reading s allowed l room).carry.number

  shown_marked : (allowed : ℕ) (l : List ℤ) → shows allowed l ≡ 0 → shows allowed (turned l) ≡ 13
  shown_marked allowed l e =
      let f = shown-found (own_search s allowed l room) room e in
      ap (λ (o : GuardedOutcome). o.carry.number) (turned_marked s g allowed l room f.0 f.1)

  marked_shown : (allowed : ℕ) (l : List ℤ) → shows allowed l ≡ 13 → shows allowed (turned l) ≡ 0
  marked_shown allowed l e =
      let f =
      marked_found (own_search s allowed l room) room
      (g.below_13 allowed l (replicate (suc (length room)) 0) (replicate (2 ^ s.code.m) 0)) e in
      turned-shown s g allowed l room f.0 f.1

  -- 6 comes from the search, which gives it on both sides
  out_turned : (allowed : ℕ) (l : List ℤ) → shows allowed l ≡ 6 → shows allowed (turned l) ≡ 6
  out_turned allowed l e =
      let b : List ℕ = replicate (suc (length room)) 0 in
      let w : List ℕ = replicate (2 ^ s.code.m) 0 in
      let six = (passed_on_lem (own_search s allowed l room) room 6 (omega arith) (omega arith)).0 e in
      let x = g.out_passes allowed l b w six in
      let same = (((g.demands l b w x).demand_3_all_ones g.all_ones_lem b w x.long_bits x.long_word).same_search allowed).0.same_number in
      (passed_on_lem (own_search s allowed (turned l) room) room 6 (omega arith) (omega arith)).1 (same ∙ six)

  back : (allowed k : ℕ) (l : List ℤ) → shows allowed (turned (turned l)) ≡ k → shows allowed l ≡ k
  back allowed k l = subst (λ (x : List ℤ). shows allowed x ≡ k) (turned-twice l)

  -- an answer stays under a larger allowance
  still_shown : (allowed more : ℕ) (l : List ℤ) → allowed ≤ more → shows allowed l ≡ 0 → shows more l ≡ 0
  still_shown allowed more l h e =
      let f = shown-found (own_search s allowed l room) room e in
      let same =
      g.larger allowed more l (replicate (suc (length room)) 0) (replicate (2 ^ s.code.m) 0) h (λ z. omega (arith, z, f.0)) in
      ap (λ (o : Search.Outcome). (guarded o room).carry.number) same ∙ e

  turned-over : (l : List ℤ) → TurnedOver s l room
  turned-over l =
      record {
        never_both = λ allowed allowed' e e'.
            let all = allowed + allowed' in
            let up = still_shown allowed all l (omega arith) e in
            let down = still_shown allowed' all (turned l) (omega arith) e' in
            omega (arith, down, shown_marked all l up);
        marked_exactly = λ allowed. (λ e. back allowed 0 l (marked_shown allowed (turned l) e), shown_marked allowed l);
        upright_exactly = λ allowed. (marked_shown allowed l, λ e. back allowed 13 l (shown_marked allowed (turned l) e));
        out_exactly = λ allowed. (λ e. back allowed 6 l (out_turned allowed (turned l) e), out_turned allowed l);
      }

-- ---- the message
module _ (s : Searching) (g : Guards s) (allowed : ℕ) (l : List ℤ) (room message : List ℕ) (h : Finds s allowed l room message) where
  abbrev o : Search.Outcome
  o = own_search s allowed l room

  sent : FoundBest s allowed l (replicate (suc (length room)) 0) (replicate (2 ^ s.code.m) 0)
  sent = found_all s g allowed l (replicate (suc (length room)) 0) (replicate (2 ^ s.code.m) 0) h.answers

  many : suc (length room) ≡ sum s.kinds
  many = sym (length-replicate (suc (length room)) 0) ∙ sent.passes.long_bits ∙ g.counted

  pub sent_bits : o.bits ≡ guarded_bits message
  sent_bits =
      bits_only s.code.m s.kinds o.bits (guarded_bits message) g.long_kinds g.are_kinds sent.best.information
      (length_with 0 message ∙ ap suc h.long ∙ many, bits_more message 0 h.are_bits (omega arith))
      (sent.best.gives ∙ h.finds)

  sent_marker : last_bit o.bits ≡ 0
  sent_marker = ap last_bit sent_bits ∙ marker_with 0 message

  written_read : reading s allowed l room ≡ message_shown message o.penalty o.gap o.visits
  written_read =
      guarded-shown o room h.answers sent_marker
      ∙ ap (λ (b : List ℕ). message_shown b o.penalty o.gap o.visits) (ap message_of sent_bits ∙ message_with 0 message)

  same_visits : needed s.code.m s.kinds (turned l) ≡ needed s.code.m s.kinds l
  same_visits =
      let m = s.code.m in
      let ks = s.kinds in
      let some = some-information m ks g.long_kinds g.are_kinds g.all_ones_lem in
      ((demands m ks l sent.passes.entries.long g.long_kinds g.are_kinds some).demand_3_all_ones g.all_ones_lem).same_visits

  module _ (allowed' : ℕ) where
    abbrev b₀ : List ℕ
    b₀ = replicate (suc (length room)) 0

    abbrev w₀ : List ℕ
    w₀ = replicate (2 ^ s.code.m) 0

    again : needed s.code.m s.kinds l ≤ allowed' → own_search s allowed' l room ≡ o
    again k =
        let d = (g.demands l b₀ w₀ sent.passes).demand_2 in
        let a = found o.bits o.word o.penalty o.gap o.visits in
        (d allowed' a).1 (k, sent.best, sent.visits_are) ∙ sym ((d allowed a).1 (sent.enough, sent.best, sent.visits_are))

    marked : needed s.code.m s.kinds (turned l) ≤ allowed' → reading s allowed' (turned l) room ≡ no_message Marker room
    marked k =
        let same = again (rw (← same_visits) k) in
        turned_marked s g allowed' l room (ap (λ (p : Search.Outcome). p.number) same ∙ h.answers)
        (ap (λ (p : Search.Outcome). last_bit p.bits) same ∙ sent_marker)

    out : allowed' < needed s.code.m s.kinds (turned l) → reading s allowed' (turned l) room ≡ no_message (Link (OutOfVisits allowed')) room
    out k =
        let x = sent.passes in
        let y = ((g.demands l b₀ w₀ x).demand_3_all_ones g.all_ones_lem b₀ w₀ x.long_bits x.long_word).sound in
        guarded-refused (own_search s allowed' (turned l) room) room (OutOfVisits allowed') b₀ w₀
        (((g.demands (turned l) b₀ w₀ y).demand_2 allowed' out_of_visits).1 k)

-- what is shown
read-written : (s : Searching) → Guards s → ReadWritten s
read-written s g allowed l room e =
    let o = own_search s allowed l room in
    let f = shown-found o room e in
    let sent = found_all s g allowed l (replicate (suc (length room)) 0) (replicate (2 ^ s.code.m) 0) f.0 in
    let long : length o.bits ≡ suc (length room) =
    sent.best.information.0 ∙ sym g.counted ∙ sym sent.passes.long_bits ∙ length-replicate (suc (length room)) 0 in
    let says : (reading s allowed l room).message ≡ message_of o.bits =
    ap (λ (p : GuardedOutcome). p.message) (guarded-shown o room f.0 f.1) in
    let whole : guarded_bits (message_of o.bits) ≡ o.bits =
    ap (λ (k : ℕ). with_marker k (message_of o.bits)) (sym f.1) ∙ last_split o.bits (omega (arith, long)) in
    subst (Finds s allowed l room) (sym says)
    (record {
      long = length-take-le (length o.bits - 1) o.bits (omega arith) ∙ omega (arith, long);
      are_bits = bits_take (length o.bits - 1) o.bits sent.best.information.1;
      answers = f.0;
      finds = sym sent.best.gives ∙ ap (encoded s.code.m s.kinds) (sym whole);
    })

pub guard_theorems : (s : Searching) → Guards s → GuardTheorems s
guard_theorems s g =
    record {
      written_read = written_read s g;
      read-written = read-written s g;
      noise_corrected = noise_corrected s g;
      turned-over = λ l room. turned-over s g room l;
      turned_message = λ allowed l room message h.
          record {
            marked = marked s g allowed l room message h;
            out = out s g allowed l room message h;
            same_visits = same_visits s g allowed l room message h;
          };
    }
