use Rattle.std.proofs.lemmas.Result.{IfOk-weaker}
use Rattle.command_line.proofs.commands.add_subcommands.Goals as goal

pub returns : goal.returns
returns c =
    IfOk-weaker c.add_subcommand-7.result _ _ (λ _ each is.
    let counts = c.in_ok-add_subcommand.ensures in
    let with_counts = counts.2 _ _ is counts.1 in
    let list = c.in_ok-add_subcommand-2.ensures in
    let with_list = list.2 _ _ with_counts list.1.1 in
    let pairs = c.in_ok-add_subcommand-3.ensures in
    let with_pairs = pairs.2 _ _ with_list pairs.1.1 in
    let check = c.in_ok-add_subcommand-4.ensures in
    let with_check = check.2 _ _ with_pairs check.1.1 in
    let set = c.in_ok-add_subcommand-5.ensures in
    let with_set = set.2 _ _ with_check set.1.1 in
    let stream = c.in_ok-add_subcommand-6.ensures in
    let with_stream = stream.2 _ _ with_set stream.1.1 in (
      record { list = list.1.0; pairs = pairs.1.0; check = check.1.0; set = set.1.0; stream = stream.1.0; each = each.1.0 },
      each.2 _ _ with_stream each.1.1,
    )) c.add_subcommand-7.ensures
