use Rattle.std.proofs.Common.{rules}
use Rattle.batch.proofs.running_items.run_threads.Goals as goal

-- the bounds of the types are those of this function
pub scoped-requires : goal.scoped-requires
scoped-requires g c =
    record {
      at = λ scope. (
        c.requires.places,
        (
          c.requires.willing,
          (
            search (rules, c.type_bounds.send-M.owned, c.type_bounds.send-M.leaving),
            search (rules, c.type_bounds.send-S.owned, c.type_bounds.send-S.leaving),
            search (rules, c.type_bounds.send-M-In.owned, c.type_bounds.send-M-In.leaving),
            search (rules, c.type_bounds.send-M-Out.owned, c.type_bounds.send-M-Out.leaving),
            search (rules, c.type_bounds.send-M-In-Slots.owned, c.type_bounds.send-M-In-Slots.leaving),
            search (rules, c.type_bounds.send-M-Out-Slots.owned, c.type_bounds.send-M-Out-Slots.leaving),
            search rules,
            search rules,
          ),
        ),
      );
    }
