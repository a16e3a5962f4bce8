-- The format of records with items in each record format.
-- This project's own.
use Rattle.run_plan.specs.declared.version.Version.{Version}
use Rattle.run_plan.specs.declared.version.Version.TheVariants.{One}
use Rattle.formats.specs.declared.record_format.RecordFormat.{RecordFormat}
use Rattle.formats.specs.declared.record_format.RecordFormat.TheVariants.{Items, Box}

-- the format of records of refused lines and of end lines
abbrev pub version_of : RecordFormat → Version
version_of (Items version) = version
version_of (Box unit) = One
