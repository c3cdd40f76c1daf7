use Rattle.std.proofs.Common.{◌≡◌, sym, ap, ◌∙◌, arith}
use Rattle.std.proofs.lemmas.Int.{ints}
use Rattle.stage.specs.Quantize.{quantize}
use Rattle.stage.proofs.Quantizing.{is_quantized}
use Rattle.stage.proofs.Ends.{none, quantize_bound, computed}
use Rattle.stage.proofs.quantize.quantize.Goals as goal

pub returns-then-step-eq0-clause-is : goal.returns-then-step-eq0-clause-is
returns-then-step-eq0-clause-is c =
    let zero : c.args.step ≡ 0 = omega (arith, ints) in
    sym (ap (λ n. quantize n c.args.x) zero ∙ none c.args.x)

pub returns : goal.returns
returns c =
    let is = computed c.args.step c.args.x _ _ c.from-step.ensures (omega (arith, ints)) (omega arith) c.ranges.x c.clamp.ensures.value in
    record {
      is = is;
      bound = rw is (quantize_bound c.args.step c.args.x);
      kept = is_quantized c.args.step c.args.x _ is;
    }
