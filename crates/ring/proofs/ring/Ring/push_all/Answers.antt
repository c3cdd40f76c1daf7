use Rattle.std.proofs.Common.{◌≡◌, ◌+◌, ◌^◌, ◌<◌, [], ◌∷◌, ◌++◌, length, take, refl, sym, ap, subst, ◌∙◌, arith, length-append, length-take-le}
use Rattle.std.proofs.lemmas.List.{take_all, take_more}
use Rattle.std.proofs.lemmas.Grind.{common_steps}
use Rattle.ring.specs.Places.{with_more}
use Rattle.ring.proofs.Places.{with_more-nil, with_more-with_more, place_of-with_more, unread_from-with_more}
use Rattle.ring.proofs.Seen.{seen}
use Rattle.ring.proofs.ring.Ring.push_all.Goals as goal

pub returns-then-latest-self-clause-room : goal.returns-then-latest-self-clause-room
returns-then-latest-self-clause-room g c =
    let s = seen c.args.self.now _ _ _ _ c.self.view_is c.self.invariant in
    grind (arith, common_steps)

pub loop-record-init : goal.loop-record-init
loop-record-init g c =
    let s = seen c.args.self.now _ _ _ _ c.self.view_is c.self.invariant in
    record { fits = omega arith; lists = sym (with_more-nil c.args.self.now (omega arith)) }

-- the check before the loop leaves room for each record
pub returns-in_err-push : goal.returns-in_err-push
returns-in_err-push g c =
    let i = c.loop-record.record-index in
    let xs = c.args.latest.now in
    let lists = c.loop-record.invariant.lists in
    let long : length c.loop-record.self.records ≡ length c.args.self.now.records + i =
    ap (λ w. length w.records) lists ∙ (length-append c.args.self.now.records (take i xs) ∙ ap (λ k. length c.args.self.now.records + k) (length-take-le i xs (omega arith))) in
    let size = ap (λ w. w.capacity) lists in
    let full = c.in_err-push.ensures.room.1 (omega (arith, c.loop-record.invariant.fits)) in
    absurd (cc)

pub loop-record-preserved : goal.loop-record-preserved
loop-record-preserved g c =
    let v = c.args.self.now in
    let xs = c.args.latest.now in
    let i = c.loop-record.record-index in
    let x = c.record-item.result in
    record {
      fits = c.loop-record.invariant.fits;
      lists =
          c.in_ok-push.ensures.ok
          ∙ ap (λ w. with_more w (x ∷ [])) c.loop-record.invariant.lists
          ∙ with_more-with_more v (take i xs) (x ∷ [])
          ∙ ap (with_more v) (sym (take_more xs i x c.loop-record-test.true ∙ ap (λ y. take i xs ++ y ∷ []) (sym c.record-item.is)));
    }

pub returns : goal.returns
returns g c =
    let s = seen c.args.self.now _ _ _ _ c.self.view_is c.self.invariant in
    let v = c.args.self.now in
    let xs = c.args.latest.now in
    let is = c.loop-record.invariant.lists ∙ ap (with_more v) (take_all _ xs (omega arith)) in
    let fits = subst (λ w. length w.records < 2 ^ 64) (sym is) (omega (arith, length-append v.records xs, c.loop-record.invariant.fits)) in
    record {
      room = ((λ _. c.loop-record.invariant.fits), (λ _. refl));
      ok = is;
      full = tt;
      places = place_of-with_more v xs _ is fits;
      readers = unread_from-with_more v xs _ is fits;
    }
