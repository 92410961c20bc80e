-- The numbers of the recordings (oracle/FORMAT.md), and those of the rows that are counted.
use Rattle.std.specs.Prelude.{◌≡◌, ℕ, ◌+◌, ◌<◌, ◌≤◌, ◌⊎◌, Option, Result, MatchOption, MatchResult}
use Rattle.vectors.specs.declared.calls.Call.{Call}
use Rattle.vectors.specs.declared.calls.Call.TheVariants as call
use Rattle.vectors.specs.declared.calls.File.{File}
use Rattle.vectors.specs.declared.calls.File.TheVariants as file
use Rattle.vectors.specs.declared.calls.Unknown.{Unknown}
use Rattle.vectors.specs.declared.items.Kind.{Kind}
use Rattle.vectors.specs.declared.items.Kind.TheVariants as kind

-- the place of a row among those that are printed
abbrev pub row_number : Call → ℕ
row_number call.Listing = 0
row_number call.RawAt = 1
row_number call.ArrayLen = 2
row_number call.ArrayElem = 3
row_number call.SmiSlot = 4
row_number call.NumField = 5
row_number call.BcaRtOff = 6
row_number call.DecodeSmiBytes = 7
row_number call.JumpTarget = 8
row_number call.JumpTable = 9
row_number call.MaxRegister = 10
row_number call.RegName = 11
row_number call.RenderOperand = 12
row_number call.Decode = 13
row_number call.SlotAt = 14
row_number call.TableCheck = 15
row_number call.StoreCheck = 16
row_number call.InstructionText = 17
row_number call.LastBytes = 18
row_number call.Walk = 19
row_number call.WalkCode = 20
row_number call.WalkLastBytes = 21
row_number call.LongListing = 22
row_number call.Header = 23
row_number call.JumpEntry = 24
row_number call.SlotRecords = 25
row_number call.JscdWrite = 26
row_number call.JscdList = 27
row_number call.JscdWalk = 28
row_number call.JscdDecode = 29
row_number call.WalkWith = 30
row_number call.WalkCodeWith = 31
row_number call.JscdWalkCode = 32
row_number call.JscdTarget = 33
row_number call.JscdEntry = 34
row_number call.JscdWalkWith = 35
row_number call.JscdWalkCodeWith = 36
row_number call.JscdToNew = 37
row_number call.JscdToOld = 38

-- the row with this number, or none where the number is behind the last
abbrev pub HasNumber : ℕ → Option Call → Type 0
HasNumber n row = MatchOption row (39 ≤ n) (λ c. row_number c ≡ n)

-- the number of a file
abbrev pub file_number : File → ℕ
file_number file.Opcodes = 0
file_number file.Types = 1
file_number file.Runtime = 2
file_number file.Intrinsic = 3
file_number file.Layout = 4
file_number file.Objects = 5
file_number file.Slots = 6
file_number file.Payload = 7
file_number file.Code = 8
file_number file.Handlers = 9

-- the file with this number, or none
abbrev pub NumbersFile : ℕ → Result File Unknown → Type 0
NumbersFile n r = MatchResult r (λ f. file_number f ≡ n) (λ e. 10 ≤ n)

-- the first byte of an item of this kind
abbrev pub kind_byte : Kind → ℕ
kind_byte (kind.Sets f) = file_number f
kind_byte (kind.Names f) = 16 + file_number f
kind_byte (kind.Call n) = 32 + n

-- a first byte of no kind
abbrev pub IsNoKind : ℕ → Type 0
IsNoKind b = ((10 ≤ b) × (b < 16)) ⊎ (((26 ≤ b) × (b < 32)) ⊎ (b ≡ 255))

-- the kind with this first byte, or none
abbrev pub BeginsKind : ℕ → Result Kind Unknown → Type 0
BeginsKind b r = MatchResult r (λ k. kind_byte k ≡ b) (λ e. IsNoKind b)

abbrev pub IsKindOf : ℕ → Option Kind → Type 0
IsKindOf b o = MatchOption o (IsNoKind b) (λ k. kind_byte k ≡ b)
