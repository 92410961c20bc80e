use mathlib.Core.Path.{refl, sym, ◌∙◌}
use native.Mathlib.Omega.{arith}
use lib.ListN.{length, take}
use lib.Seq.{length-take-le}
use Rattle.std.proofs.lemmas.Result.{err_from_is_err_and}
use Rattle.handlers.specs.mirror.Catches.{Fits}
use Rattle.walk.specs.mirror.Search.{source_of}
use Rattle.walk.proofs.Laws.{clear_part}
use Rattle.walk.proofs.Answers.{source_refused}
use Rattle.walk.proofs.Checks.{first_refused, second_refused, third_is, room_ok, handlers_few, found_with}
use Rattle.walk.proofs.walk_in.Goals as goal

pub returns-in_err-keep_code : goal.returns-in_err-keep_code
returns-in_err-keep_code c =
    let a = c.args in
    let s = source_of a.code.now a.opcodes.now a.types.now a.slots.now a.payload.now a.handlers.now a.f in
    let p = err_from_is_err_and c.from_residual.result c.from_residual.ensures.1 in
    rw (p.1, p.2) (source_refused s a.marks.now _ (first_refused s _ c.keep_code.ensures.checked c.in_err-keep_code.was))

pub returns-in_err-refuse_unless : goal.returns-in_err-refuse_unless
returns-in_err-refuse_unless c =
    let a = c.args in
    let s = source_of a.code.now a.opcodes.now a.types.now a.slots.now a.payload.now a.handlers.now a.f in
    let p = err_from_is_err_and c.from_residual-in_err-refuse_unless.result c.from_residual-in_err-refuse_unless.ensures.1 in
    rw (p.1, p.2) (source_refused s a.marks.now _ (second_refused s _ c.keep_code.ensures.checked c.in_ok-keep_code.was c.refuse_unless.ensures c.in_err-refuse_unless.was))

pub returns-in_err-late : goal.returns-in_err-late
returns-in_err-late c =
    let a = c.args in
    let s = source_of a.code.now a.opcodes.now a.types.now a.slots.now a.payload.now a.handlers.now a.f in
    let p = err_from_is_err_and c.from_residual-in_err-late.result c.from_residual-in_err-late.ensures.1 in
    rw (p.1, p.2)
    (source_refused s a.marks.now _ (sym c.in_err-late.was ∙ third_is s _ c.keep_code.ensures.checked c.in_ok-keep_code.was c.refuse_unless.ensures c.in_ok-refuse_unless.was c.check_handlers-late.ensures))

pub returns : goal.returns
returns c =
    let a = c.args in
    let p = c.requires in
    let n = length a.code.now in
    let s = source_of a.code.now a.opcodes.now a.types.now a.slots.now a.payload.now a.handlers.now a.f in
    let ok = sym c.in_ok-late.was ∙ third_is s _ c.keep_code.ensures.checked c.in_ok-keep_code.was c.refuse_unless.ensures c.in_ok-refuse_unless.was c.check_handlers-late.ensures in
    let r = c.search in
    let heads = c.keep_code.auto.heads ∙ length-take-le n a.heads.now p.1 in
    let room : Fits a.code.now a.handlers.now (take n a.catches.now) = record { as_long = length-take-le n a.catches.now p.3; short = p.0; few = handlers_few s _ (sym ok); clear = clear_part n a.catches.now p.6 } in
    found_with a.code.now a.opcodes.now a.types.now a.slots.now a.payload.now a.handlers.now a.f a.marks.now _ r.result
    ok p.0 heads refl p.7 c.keep_code.ensures (c.catch_table.ensures room)
    (r.ensures (record { small = omega (arith, heads, p.0); as_many = length-take-le n a.marks.now (room_ok s _ (sym ok)) ∙ sym heads; room = omega (arith, heads, p.4) }))
