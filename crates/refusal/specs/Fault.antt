-- The numbers of 01's table of refusals, and of 02's behind the twentieth; beside each row their words for it.
use Rattle.std.specs.Prelude.{ℕ}
use Rattle.refusal.specs.declared.Fault.{Fault}
use Rattle.refusal.specs.declared.Fault.TheVariants as fault

abbrev pub number_of : Fault → ℕ
number_of fault.TableSize = 1  -- "not whole records, or too few or many"
number_of fault.BadName = 2  -- "bad name"
number_of fault.BadOpcode = 3  -- "opcode record otherwise bad"
number_of fault.BadType = 4  -- "type record otherwise bad"
number_of fault.BadLayout = 5  -- "layout value outside its range"
number_of fault.StoreSize = 6  -- "not whole records, too many, or payload too long"
number_of fault.BadRecord = 7  -- "bad object or slot record"
number_of fault.NoObject = 8  -- "number has no object, or header or code is wanted of one that is not a BytecodeArray"
number_of fault.BadLength = 9  -- "code length field negative or above 65,536"
number_of fault.LongCode = 10  -- "lent code above 65,536 bytes"
number_of fault.EndsAfterWide = 11  -- "code ends after a Wide .. prefix"
number_of fault.EndsAfterExtraWide = 12  -- "code ends after .. an ExtraWide prefix"
number_of fault.NoOpcode = 13  -- "opcode has no record"
number_of fault.EndsInOperand = 14  -- "code ends in an operand"
number_of fault.EndsInCount = 15  -- "code ends .. in the RegCount that a list reads"
number_of fault.BadSwitch = 16  -- "any listed instruction, reached or not: pool found, operands of the right kinds, entry count below 0 or above 4,096"
number_of fault.ShortOutput = 17  -- "lent output buffer shorter than the whole output"
number_of fault.ShortMarks = 18  -- "mark buffer shorter than the code"
number_of fault.CodeNotHeld = 19  -- 02: "it takes its code from an object whose length is positive and no run holds that code"
number_of fault.BeyondCode = 20  -- "start place beyond the code's end"
number_of fault.WrongScale = 21  -- "scale not 1, 2 or 4, or 2 or 4 without its prefix record"
number_of fault.WrongOpcode = 22  -- "no such opcode, or a prefix opcode at scale 1"
number_of fault.WrongOperands = 23  -- "a wrong number or kind of operands, or one that reading back at its width would change"
number_of fault.HandlersSize = 24  -- "not whole records or more than 4,096"
number_of fault.BadHandler = 25  -- "start not below end, or end beyond the code"
number_of fault.BadFlow = 26  -- "one of bytes 50 to 53 outside these values"
number_of fault.OtherFlow = 27  -- "a way back for which the name would give other bytes"
