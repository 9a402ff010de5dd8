-- What a fault reports: what the search's refusal carries, else only its number.
use Rattle.code.specs.Sound.{Carried, carrying, carried}
use Rattle.guarded.specs.declared.Fault.{Fault}
use Rattle.guarded.specs.declared.Fault.TheVariants.{Link, Marker, Tilt, ZeroTilt, Field}

abbrev pub fault_carries : Fault → Carried
fault_carries (Link why) = carried why
fault_carries Marker = carrying 13 0 0 0
fault_carries Tilt = carrying 14 0 0 0
fault_carries ZeroTilt = carrying 15 0 0 0
fault_carries Field = carrying 16 0 0 0
