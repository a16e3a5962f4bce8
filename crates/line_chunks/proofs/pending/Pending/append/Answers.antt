use Rattle.std.proofs.Common.{◌≡◌, ◌≢◌, ◌++◌, ap, arith, drop, length, length-append, ◌∙◌}
use Rattle.std.proofs.lemmas.Grind.{common_steps}
use Rattle.std.proofs.lemmas.List.Elements.{All-append}
use Rattle.line_chunks.proofs.PendingLemmas.{lines_behind, rest_behind}
use Rattle.line_chunks.proofs.pending.Pending.append.Goals as goal

pub invariant_of-self-then-lines-gt0 : goal.invariant_of-self-then-lines-gt0
invariant_of-self-then-lines-gt0 c =
    let rest = drop c.self.inside.whole c.self.inside.bytes.items in
    let is = c.in_ok-extend_from_slice.ensures.items ∙ ap (λ front. front ++ c.args.read.now) c.remove_front.ensures in
    let kept : c.len-kept.result ≡ length rest = grind (arith, common_steps) in
    let cut = c.up_to_last_feed-lines in
    rw (is, kept) (
      omega arith,
      omega (arith, length-append rest c.args.read.now),
      lines_behind rest c.args.read.now cut.result cut.ensures.within c.if-lines-gt0.true cut.ensures.whole,
      rest_behind rest c.args.read.now cut.result cut.ensures.within cut.ensures.rest,
    )

pub invariant_of-self-else-lines-gt0 : goal.invariant_of-self-else-lines-gt0
invariant_of-self-else-lines-gt0 c =
    let rest = drop c.self.inside.whole c.self.inside.bytes.items in
    let is = c.in_ok-extend_from_slice.ensures.items ∙ ap (λ front. front ++ c.args.read.now) c.remove_front.ensures in
    let none : c.up_to_last_feed-lines.result ≡ 0 = omega arith in
    rw is (
      omega arith,
      omega arith,
      omega arith,
      All-append (λ byte. byte ≢ 10) rest c.args.read.now c.self.invariant.3 (rw none at c.up_to_last_feed-lines.ensures.rest),
    )
