-- A line that is set byte by byte (defined in Additions), divided into its runs: for the proof that its
-- setting is the one that set_line defines. This project's own.
use Rattle.std.specs.Prelude.{ℕ, Bool, true, List, [], ◌∷◌, Option, None, if◌then◌else◌}
use Rattle.std.specs.Option.{option_and_then, option_map}
use Rattle.tfm_tables.specs.Font.{FontValue}
use Rattle.tfm_tables.specs.Measure.{parameter_of}
use Rattle.lig_kern.specs.declared.symbol.Symbol.{Symbol}
use Rattle.lig_kern.specs.declared.symbol.Symbol.TheVariants.{Left, Char}
use Rattle.lig_kern.specs.declared.item.Item.{Item}
use Rattle.lig_kern.specs.declared.item.Item.TheVariants.{Space, Skipped}
use Rattle.lig_kern.specs.Matching.{action_between}
use Rattle.lig_kern.specs.Result.{Setting}
use Rattle.set_line.specs.Pieces.{is_space}
use Rattle.line_records.specs.Additions.{Addition, after, alone, ending_of, step_by, with_cut}

-- what a character adds
abbrev pub char_added : FontValue → Symbol → ℕ → Option Addition
char_added font current byte = step_by font (action_between font current (Char byte)) current (Char byte)

-- the setting of the rest of a run in which this symbol is current, if what each character adds is defined
unfoldable pub run_from : FontValue → Bool → Symbol → List ℕ → Option Setting
run_from font right current [] = option_map alone (ending_of font right current)
run_from font right current (byte ∷ bytes) =
    option_and_then (λ added. option_map (after added) (run_from font right added.current bytes)) (char_added font current byte)

-- the item of a byte that ends a run
abbrev pub item_at : FontValue → ℕ → Item
item_at font byte = if is_space byte then Space (parameter_of font.words font.size 2) else Skipped byte

-- the setting of a run as an addition
abbrev pub added_run : Setting → Addition
added_run set = record { steps = set.steps; items = set.items; current = Left }

-- the setting of runs with the bytes between them, in the first of which this symbol is current
unfoldable pub runs_from : FontValue → Symbol → List (List ℕ) → List ℕ → Option Setting
runs_from font current [] cuts = None
runs_from font current (run ∷ runs) [] = run_from font true current run
runs_from font current (run ∷ runs) (cut ∷ cuts) =
    option_and_then (λ set. option_map (after (with_cut (item_at font cut) (added_run set))) (runs_from font Left runs cuts))
    (run_from font (is_space cut) current run)
