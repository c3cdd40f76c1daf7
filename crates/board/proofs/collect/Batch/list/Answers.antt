use Rattle.std.proofs.Common.{◌++◌, [], ◌∷◌, sym, ap, ◌∙◌}
use Rattle.std.proofs.lemmas.List.{append_assoc}
use Rattle.board.specs.Collects.{newest_of, is_repeated_by, items_of}
use Rattle.board.proofs.Batches.{newest_is, left_off, listed}
use Rattle.board.proofs.collect.Batch.list.Goals as goal

pub returns-then-not-is_repeated_by-clause-lists : goal.returns-then-not-is_repeated_by-clause-lists
returns-then-not-is_repeated_by-clause-lists c = λ before old.
    let items = items_of c.args.self.now in
    let last = c.copied.ensures ∙ (c.last.ensures.value ∙ ap newest_of c.as_slice.ensures) in
    let newest = newest_is before items c.args.newest _ _ old last c.or-newest.ensures in
    ap (λ xs. before ++ xs) c.push.ensures.items
    ∙ (sym (append_assoc before items (c.args.latest ∷ []))
    ∙ listed (before ++ items) c.args.latest (ap (is_repeated_by c.args.latest) (sym newest) ∙ (sym c.is_repeated_by.ensures ∙ c.if-not-is_repeated_by.true)))

pub returns-else-not-is_repeated_by-clause-lists : goal.returns-else-not-is_repeated_by-clause-lists
returns-else-not-is_repeated_by-clause-lists c = λ before old.
    let items = items_of c.args.self.now in
    let last = c.copied.ensures ∙ (c.last.ensures.value ∙ ap newest_of c.as_slice.ensures) in
    let newest = newest_is before items c.args.newest _ _ old last c.or-newest.ensures in
    left_off (before ++ items) c.args.latest (ap (is_repeated_by c.args.latest) (sym newest) ∙ (sym c.is_repeated_by.ensures ∙ c.if-not-is_repeated_by.false))
