-- The places of the items of a span: its run is set with the ranges of bytes from which its elements come.
-- Public source: The METAFONTbook, Appendix F, for the rewriting. The ranges are this project's own.
use Rattle.std.specs.Prelude.{ℕ, List, Option}
use Rattle.tfm_tables.specs.Font.{FontValue}
use Rattle.lig_kern.specs.declared.item.Item.{Item}
use Rattle.lig_kern.specs.declared.byte_range.ByteRange.{ByteRange}
use Rattle.lig_kern.specs.Places.{placed_run, places_after}
use Rattle.spans.specs.declared.span.Span.{Span}
use Rattle.spans.specs.declared.placed_item.PlacedItem.{PlacedItem}
use Rattle.spans.specs.Spans.{codes_of, ends_of}

-- an item with the bytes that it comes from
abbrev pub placed : Item → ByteRange → PlacedItem
placed item place = record { item = item; place = place }

-- the items of a span with their places, if exactly this many steps lead to them
abbrev pub places_of : FontValue → List ℕ → Span → ℕ → Option (List PlacedItem)
places_of font text span = places_after placed font (placed_run font (codes_of text span) (ends_of span))
