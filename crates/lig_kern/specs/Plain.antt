-- The actions between two neighbours after which neither of them is left for a further action, except for the right
-- one as the current symbol.
-- Public source: The METAFONTbook, Appendix F; tftopl.web, section 13.
use Rattle.std.specs.Prelude.{zero, false, List, [], ◌∷◌, Option, Some, None}
use Rattle.lig_kern.specs.declared.symbol.Symbol.{Symbol}
use Rattle.lig_kern.specs.declared.symbol.Symbol.TheVariants.{Char}
use Rattle.lig_kern.specs.declared.action.Action.{Action}
use Rattle.lig_kern.specs.declared.action.Action.TheVariants.{Kern, Lig}
use Rattle.lig_kern.specs.declared.plainly.Plain.{Plain}
use Rattle.lig_kern.specs.declared.plainly.Plain.TheVariants.{Passes, Replaces}
use Rattle.lig_kern.specs.Rewriting.{Element, of_symbol, of_kern}

-- an action, or none, as a plain one: nothing or a kern comes between the two, or a ligature replaces both
abbrev pub plain_of : Option Action → Option Plain
plain_of None = Some (Passes None)
plain_of (Some (Kern amount)) = Some (Passes (Some amount))
plain_of (Some (Lig code false false zero)) = Some (Replaces code)
plain_of (Some (Lig code keep_left keep_right pass)) = None

-- the elements that a plain action passes
abbrev pub plain_sent : Plain → Symbol → List Element
plain_sent (Passes None) current = of_symbol current ∷ []
plain_sent (Passes (Some amount)) current = of_symbol current ∷ of_kern amount ∷ []
plain_sent (Replaces code) current = []

-- the symbol that is current after it
abbrev pub plain_next : Plain → Symbol → Symbol
plain_next (Passes kern) next = next
plain_next (Replaces code) next = Char code
