-- A refusal of document 01: one of its faults, and a place.
use Rattle.refusal.specs.declared.Refusal.{Refusal as RefusalOf}
use Rattle.refusal.specs.declared.Fault.{Fault}

abbrev pub Refusal : Type 0
Refusal = RefusalOf Fault
