use Rattle.std.proofs.Common.{◌≡◌, true, false, rules}
use Rattle.std.proofs.lemmas.Iterator.{first_from_Range}
use Rattle.store.specs.Check.{bad_object}
use Rattle.store.proofs.Search.{first_or_all}
use Rattle.store.proofs.checks.check_objects.Goals as goal

pub returns : goal.returns
returns c =
    let bad = bad_object c.args.objects.now c.args.slots in
    let first = first_or_all bad c.object_count-n.result c.find-bad.result c.unwrap_or.ensures
    (first_from_Range _ _ _ _ (λ k. bad k ≡ true) (λ k. bad k ≡ false) c.find-bad.ensures.ran (λ k q x. search rules) (λ k q x. (search rules, search rules))) in
    rw (c.at_record.ensures, first, c.object_count-n.ensures)
