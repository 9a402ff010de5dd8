-- `record::writable` meets its contract: each return is what the tests that led there show.
use Rattle.std.specs.Prelude.{◌≡◌, ◌^◌, ◌≤◌, length, Ok}
use Rattle.std.proofs.Common.{rules, sym, ◌∙◌, arith}
use Rattle.code.specs.Sound.{Sound, largest_record_reading, made}
use Rattle.code.specs.SoundLaws.{made_of}
use Rattle.code.specs.Entries.{first_bad_reading}
use Rattle.code.specs.AdmittedLaws.{entry_err, entry_ok}
use Rattle.record.specs.ReaderLaws.{part_small}
use Rattle.record.specs.WritingLaws.{not_made, not_long, not_good, no_room, may_write}
use Rattle.record.proofs.writable.Goals as goal
use Rattle.record.proofs.writable.Goals.{In_ok-code, Else-readings-length, In_ok-test_record_readings}

pub returns-in_err-code : goal.returns-in_err-code
returns-in_err-code c =
    let s = c.args in
    let e = not_made s.r s.m s.readings.now s.bytes s.place (sym c.new.ensures ∙ c.in_err-code.was) in
    search rules

-- the code that was made
is_made : (c : In_ok-code) → made c.args.r c.args.m ≡ Ok c.in_ok-code.code
is_made c = sym c.new.ensures ∙ c.in_ok-code.was

sound : (c : In_ok-code) → Sound c.in_ok-code.code
sound c = (made_of _ _ _ (is_made c)).sound

-- there are as many readings as it has positions
long : (c : Else-readings-length) → length c.args.readings.now ≡ 2 ^ c.in_ok-code.code.m
long c = c.if-readings-length.false ∙ c.length.ensures

-- and none is too large
good : (c : In_ok-test_record_readings) → length c.args.readings.now ≤ first_bad_reading largest_record_reading c.args.readings.now
good c = entry_ok _ _ (sym c.test_record_readings.ensures ∙ c.in_ok-test_record_readings.was)

pub length-requires : goal.length-requires
length-requires c = sound c

pub returns-then-readings-length : goal.returns-then-readings-length
returns-then-readings-length c =
    let s = c.args in
    not_long s.r s.m s.readings.now s.bytes s.place _
    (is_made ((goal.at.returns-then-readings-length c).In_ok-code)) (λ e. c.if-readings-length.true (e ∙ sym c.length.ensures))

pub returns-in_err-test_record_readings : goal.returns-in_err-test_record_readings
returns-in_err-test_record_readings c =
    let s = c.args in
    let own = goal.at.returns-in_err-test_record_readings c in
    let bad = entry_err _ _ (sym c.test_record_readings.ensures ∙ c.in_err-test_record_readings.was) in
    let e = not_good s.r s.m s.readings.now s.bytes s.place _ (is_made own.In_ok-code) (long own.Else-readings-length) bad.1 in
    let same = bad.0 in
    search rules

pub returns-then-bytes-place : goal.returns-then-bytes-place
returns-then-bytes-place c =
    let s = c.args in
    let own = goal.at.returns-then-bytes-place c in
    no_room s.r s.m s.readings.now s.bytes s.place _ (is_made own.In_ok-code) (long own.Else-readings-length)
    (good own.In_ok-test_record_readings) (omega arith)

pub part_length-requires : goal.part_length-requires
part_length-requires c = sound ((goal.at.part_length-requires c).In_ok-code)

pub overflow_add-part_length : goal.overflow_add-part_length
overflow_add-part_length c = omega (arith, part_small _ (sound ((goal.at.overflow_add-part_length c).In_ok-code)))

pub returns-then-bytes-place-2 : goal.returns-then-bytes-place-2
returns-then-bytes-place-2 c =
    let s = c.args in
    let own = goal.at.returns-then-bytes-place-2 c in
    no_room s.r s.m s.readings.now s.bytes s.place _ (is_made own.In_ok-code) (long own.Else-readings-length)
    (good own.In_ok-test_record_readings) (omega (arith, c.part_length.ensures))

pub returns : goal.returns
returns c =
    let s = c.args in
    let own = goal.at.returns c in
    may_write s.r s.m s.readings.now s.bytes s.place _ (is_made own.In_ok-code) (long own.Else-readings-length)
    (good own.In_ok-test_record_readings) (omega (arith, c.part_length.ensures))
