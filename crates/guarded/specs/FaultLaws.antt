-- A fault is determined by what it carries.
use Rattle.std.specs.Prelude.{◌≡◌, refl, ℕ, zero, suc, ◌-◌, ◌≤◌, ◌<◌}
use Rattle.std.proofs.Common.{ap, sym, ◌∙◌, ⊎_elim, arith}
use Rattle.numbers.specs.Choice.{lt_or_le}
use Rattle.code.specs.Sound.{Carried, carried}
use Rattle.code.specs.declared.Refusal.{Refusal}
use Rattle.code.specs.declared.Refusal.TheVariants.{Parameters, InputLength, OutputLength, Entry, NotAWord, OutOfVisits, Tied, Torn, Pad, NoEntry, Map, Named}
use Rattle.code.specs.RefusalLaws.{refusal_only, number_above}
use Rattle.guarded.specs.declared.Fault.{Fault}
use Rattle.guarded.specs.declared.Fault.TheVariants.{Link, Marker, Tilt, ZeroTilt, Field}
use Rattle.guarded.specs.Faults.{fault_carries}

-- the decoder's numbers stay below the guarded words' own
pub number-below : (why : Refusal) → (carried why).number < 13
number-below Parameters = omega arith
number-below InputLength = omega arith
number-below OutputLength = omega arith
number-below (Entry place) = omega arith
number-below (NotAWord index) = omega arith
number-below (OutOfVisits allowed) = omega arith
number-below (Tied penalty visits) = omega arith
number-below Torn = omega arith
number-below Pad = omega arith
number-below NoEntry = omega arith
number-below Map = omega arith
number-below Named = omega arith

abbrev fault_number : Fault → ℕ
fault_number why = (fault_carries why).number

pub fault_above : (why : Fault) → 0 < (fault_carries why).number
fault_above (Link why) = number_above why
fault_above Marker = omega arith
fault_above Tilt = omega arith
fault_above ZeroTilt = omega arith
fault_above Field = omega arith

abbrev own_fault : ℕ → Fault
own_fault zero = Marker
own_fault (suc zero) = Tilt
own_fault (suc (suc zero)) = ZeroTilt
own_fault (suc (suc (suc n))) = Field

-- from 13 on by its number
own_fault_lem : (why : Fault) → 13 ≤ fault_number why → own_fault (fault_number why - 13) ≡ why
own_fault_lem (Link why) h = absurd (omega (arith, number-below why))
own_fault_lem Marker h = refl
own_fault_lem Tilt h = refl
own_fault_lem ZeroTilt h = refl
own_fault_lem Field h = refl

-- below it is the decoder's
link_fault : (why : Fault) → fault_number why < 13 → (w : Refusal) × (why ≡ Link w)
link_fault (Link why) h = (why, refl)
link_fault Marker h = absurd (omega arith)
link_fault Tilt h = absurd (omega arith)
link_fault ZeroTilt h = absurd (omega arith)
link_fault Field h = absurd (omega arith)

pub fault_only : (why why' : Fault) → fault_carries why ≡ fault_carries why' → why ≡ why'
fault_only why why' e =
    let n = ap (λ (c : Carried). c.number) e in
    ⊎_elim
    (λ h.
    let a = link_fault why h in
    let b = link_fault why' (omega arith) in
    a.1 ∙ ap Link (refusal_only a.0 b.0 (ap fault_carries (sym a.1) ∙ e ∙ ap fault_carries b.1)) ∙ sym b.1)
    (λ h. sym (own_fault_lem why h) ∙ ap (λ (k : ℕ). own_fault (k - 13)) n ∙ own_fault_lem why' (omega arith))
    (lt_or_le (fault_number why) 13)
