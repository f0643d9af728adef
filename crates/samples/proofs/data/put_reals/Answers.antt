-- Each reading is in range and has room, and stands behind those before it.
use Rattle.std.proofs.Common.{◌≡◌, ◌*◌, ◌<◌, ◌≤◌, ◌^◌, length, Some, None, sym, refl, ap, ◌∙◌, subst, zero-add, ℕ, List, w64, SFits, rules, arith}
use Rattle.std.specs.Result.{IsOk}
use Rattle.std.proofs.lemmas.List.{take_all}
use Rattle.mti.specs.Precisions.{width_of}
use Rattle.session.specs.Sampling.{reals_from}
use Rattle.session.proofs.OutputData.{reals_missing}
use Rattle.samples.proofs.Readings.{as_before, real_within, real_put, real_step}
use Rattle.samples.proofs.data.put_reals.Goals as goal

pub returns-in_err-value-clause-is : goal.returns-in_err-value-clause-is
returns-in_err-value-clause-is g c =
    let k = c.loop-index.index in
    let f = λ (j : ℕ). g.T.Sensor.meaning c.args.sensor.now c.args.output.channel.identifier j c.args.tick in
    let absent : f k ≡ None =
    as_before (g.T.Sensor.meaning c.args.sensor.now) (g.T.Sensor.meaning c.loop-index.sensor) c.args.output.channel.identifier k c.args.tick None
    c.in_err-value.ensures.answer c.loop-index.invariant.stays in
    rw c.from_residual.ensures (reals_missing f c.args.output.precision 0 c.args.count k (search rules) (ap f (zero-add k) ∙ absent))

pub unwrap-at-requires : goal.unwrap-at-requires
unwrap-at-requires g c =
    let v = c.in_ok-value.value in
    let t : c.args.tick < 2 ^ 32 = search rules in
    let f : SFits w64 v = search rules in
    let l : c.loop-index.index < c.args.count = search rules in
    let size : length c.loop-index.out ≡ c.args.count * width_of c.args.output.precision = search rules in
    let h = real_within _ c.args.output.channel.identifier c.args.tick c.loop-index.index c.args.count c.args.output.channel v
    c.in_ok-value.ensures.range (c.requires.row, refl) c.requires.kind l t c.in_ok-value.ensures.answer in
    subst IsOk (sym (real_put c.put_real.result c.args.output.precision v c.loop-index.index c.args.count c.loop-index.at c.loop-index.out f h l
    c.loop-index.invariant.at size c.put_real.ensures.answer)) refl

pub loop-index-preserved : goal.loop-index-preserved
loop-index-preserved g c =
    let k = c.loop-index.index in
    let p = c.args.output.precision in
    let v = c.in_ok-value.value in
    let f : SFits w64 v = search rules in
    let inside : c.loop-index.at ≤ length c.loop-index.out = search rules in
    let w : c.unwrap-at.result ≡ width_of p = search rules in
    record {
      at = omega (arith, w, c.loop-index.invariant.at);
      there =
          real_step (λ (j : ℕ). g.T.Sensor.meaning c.args.sensor.now c.args.output.channel.identifier j c.args.tick) p k c.loop-index.at c.unwrap-at.result _
          c.loop-index.out c.put_real.new.out _ c.put_real.result v f c.loop-index.invariant.there
          (as_before (g.T.Sensor.meaning c.args.sensor.now) (g.T.Sensor.meaning c.loop-index.sensor) c.args.output.channel.identifier k c.args.tick
          (Some v) c.in_ok-value.ensures.answer c.loop-index.invariant.stays)
          inside w c.unwrap-at.ensures c.put_real.ensures.bytes;
      stays = c.in_ok-value.ensures.stays ∙ c.loop-index.invariant.stays;
    }

pub returns-clause-is : goal.returns-clause-is
returns-clause-is g c =
    let f = λ (j : ℕ). g.T.Sensor.meaning c.args.sensor.now c.args.output.channel.identifier j c.args.tick in
    let p = c.args.output.precision in
    let out = c.loop-index.out in
    let all : c.loop-index.index ≡ c.args.count = search rules in
    let size : length out ≡ c.args.count * width_of p = search rules in
    let end : c.loop-index.at ≡ length out = c.loop-index.invariant.at ∙ ap (λ (n : ℕ). n * width_of p) all ∙ sym size in
    ap (reals_from f p 0) (sym all) ∙ c.loop-index.invariant.there
    ∙ ap (λ (l : List ℕ). Some l) (take_all c.loop-index.at out (omega (arith, end)))
