use Rattle.std.proofs.Common.{◌≡◌, ◌-◌, ◌∙◌, ◌<◌, length, refl, ap, sym, arith, slice_set}
use Rattle.host.specs.Lots.{outcome_after}
use Rattle.host.specs.Works.{notes_of}
use Rattle.host.proofs.Works.{last_noted_at}
use Rattle.host.proofs.lots.Work.note.Goals as goal

pub returns-in-Some : goal.returns-in-Some
returns-in-Some c =
    let all = c.args.self.now.outcomes in
    let last = c.in-Some.outcome.now in
    let filled : 0 < all.len = c.in-Some.ensures.variant.0 refl in
    let whole : all.len ≡ length all.items = all.ok.0 in
    let written = c.note.ensures ∙ ap (λ o. outcome_after o c.args.gate) c.in-Some.ensures.value in
    let noted_last = last_noted_at c.args.gate all.items (all.len - 1) last (omega arith) in
    ap (λ os. record (notes_of c.args.self.now) { outcomes = os }) (ap (λ o. slice_set all.items (all.len - 1) o) written ∙ sym noted_last)
