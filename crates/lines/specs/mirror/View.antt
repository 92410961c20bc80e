-- What a function's lines are made from, with the pool's elements by the search that the code makes: `listed_searched` of crate disasm says
-- that on checked files it is the view of disasm/specs/Listing.antt.
use Rattle.std.specs.Prelude.{ℕ, List}
use Rattle.std.specs.Prelude.{Option}
use Rattle.serializer.specs.declared.Elem.{Elem}
use Rattle.flow.specs.Opcodes.{opcodes_of}
use Rattle.bytecode.specs.Texts.{NameFiles}
use Rattle.targets.specs.Targets.{found}
use Rattle.targets.specs.mirror.Search.{pool_searched}
use Rattle.function.specs.declared.Function.{Function}
use Rattle.lines.specs.Line.{View}

-- the files that names are taken from
abbrev pub names_of : List ℕ → List ℕ → List ℕ → NameFiles
names_of types runtime intrinsic = record { types = types; runtime = runtime; intrinsic = intrinsic }

-- the pool's elements
abbrev pub elems_of : List ℕ → List ℕ → Function → ℕ → Option Elem
elems_of slots payload f = pool_searched slots payload f.ts f.pool

abbrev pub view_of : List ℕ → List ℕ → List ℕ → List ℕ → List ℕ → List ℕ → List ℕ → Function → View
view_of code opcodes types runtime intrinsic slots payload f = record {
  code = code;
  opcodes = opcodes_of opcodes;
  names = names_of types runtime intrinsic;
  frame = f.frame;
  params = f.params;
  pooled = found f.pool;
  elem = elems_of slots payload f;
}
