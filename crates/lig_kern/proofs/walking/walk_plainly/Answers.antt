use Rattle.std.proofs.Common.{◌≡◌, ◌+◌, ◌<◌, ◌≤◌, length, drop, arith, refl}
use Rattle.tfm_words.proofs.AppendingLemmas.{front_at_once, front_through}
use Rattle.lig_kern.specs.Places.{codes_ahead}
use Rattle.lig_kern.proofs.UnderWay.{code_next, moved_none, moved_on}
use Rattle.lig_kern.proofs.walking.walk_plainly.Goals as goal

pub loop-used-init : goal.loop-used-init
loop-used-init g c =
    let none : c.args.run.at + 0 ≡ c.args.run.at = omega arith in
    record {
      front = front_at_once c.args.out.now.items;
      few = omega arith;
      moved = λ value is stands. rw none (moved_none g.O.RunItem.made value c.args.run.first (codes_ahead c.args.run.codes.now c.args.run.at c.args.run.hyphen stands) c.args.out.now.items);
    }

pub loop-used-preserved : goal.loop-used-preserved
loop-used-preserved g c =
    let codes = c.args.run.codes.now in
    let at = c.args.run.at in
    let used = c.loop-used.used in
    let out = c.loop-used.out.items in
    let after = c.plain_step.new.out.items in
    let within : used < length codes = omega arith in
    record {
      front = front_through c.args.out.now.items out after c.loop-used.invariant.front c.plain_step.ensures.front;
      few = let more : length after ≤ length out + 2 = rw c.in-Some.is at c.in_ok-plain_step.ensures.few in omega (arith, c.loop-used.invariant.few, more);
      moved = λ value is stands.
          let rest = codes_ahead (drop (used + 1) codes) (at + (used + 1)) c.args.run.hyphen stands in
          moved_on g.O.RunItem.made value used 1 (used + 1) c.args.run.first c.loop-used.current c.in-Some.after
          (codes_ahead codes at c.args.run.hyphen stands) (codes_ahead (drop used codes) (at + used) c.args.run.hyphen stands) rest
          c.args.out.now.items out after (c.loop-used.invariant.moved value is stands)
          (rw (code_next codes used at c.args.run.hyphen stands within)
          (rw c.new-next.ensures at ((rw c.in-Some.is at c.in_ok-plain_step.ensures.moved value is) rest))) refl;
    }

pub returns-clause-moved : goal.returns-clause-moved
returns-clause-moved g c = λ value is stands.
    let end : c.if-run-steps_left.most ≡ c.loop-used.used = omega arith in
    rw end (c.loop-used.invariant.moved value is stands)
