-- What is found once of a function: `listed_searched` of crate disasm and `walked_searched` of crate walk say what the calls make of it.
use Rattle.std.specs.Prelude.{ℕ, suc, List, length, ℤ}
use Rattle.layout.specs.declared.Layout.{Layout}
use Rattle.tables.specs.Records.{prefixes_of}
use Rattle.flow.specs.Opcodes.{opcodes_of}
use Rattle.decoder.specs.Decode.{Decoded, decode_at}
use Rattle.decoder.specs.Listed.{Listing, list_from}
use Rattle.std.specs.Prelude.{Option}
use Rattle.targets.specs.declared.PoolSlots.{PoolSlots}
use Rattle.function.specs.declared.Function.{Function}

abbrev pub function_of : List ℕ → Layout → Option PoolSlots → ℤ → Function
function_of opcodes l p params = record {
  ts = l.tagged_size;
  pool = p;
  frame = l.frame;
  params = params;
  prefixes = prefixes_of opcodes;
}

-- what is decoded at a place of its code
abbrev pub decoded_by : List ℕ → List ℕ → List ℕ → Function → ℕ → Decoded
decoded_by code opcodes types f i = decode_at code (opcodes_of opcodes) types i f.frame.reg_file_start f.prefixes

-- its listed instructions
abbrev pub listed_by : List ℕ → List ℕ → List ℕ → Function → Listing
listed_by code opcodes types f = list_from (decoded_by code opcodes types f) (suc (length code)) 0
