-- What is said of files that are no store.
use Rattle.std.specs.Prelude.{ℕ, List, ◌++◌, codes}
use Rattle.std.specs.Fmt.{decimal}
use Rattle.gem_object.specs.gem_value.Oid.{oid_text}
use Rattle.gem_sound.specs.Sound.{rule_number}
use Rattle.image_check.specs.Faults.{rule_of}
use Rattle.extent_pages.specs.FaultText.{rule_number as page_rule}
use Rattle.tran_log.specs.FaultText.{rule_number as log_rule}
use Rattle.stone_store.specs.declared.fault.StoreFlaw.{StoreFlaw}
use Rattle.stone_store.specs.declared.fault.StoreFlaw.TheVariants as flaw
use Rattle.stone_store.specs.declared.fault.StoreFault.{StoreFault}
use Rattle.stone_store.specs.declared.fault.StoreFault.TheVariants as fault

-- which file, or the image; where; and the rule
abbrev pub flaw_text : StoreFlaw → List ℕ
flaw_text (flaw.Extent at rule) =
    codes "extent at " ++ decimal at ++ codes " rule G" ++ decimal (page_rule rule)
flaw_text (flaw.Log at rule) =
    codes "log at " ++ decimal at ++ codes " rule L" ++ decimal (log_rule rule)
flaw_text (flaw.Image oid rule) =
    codes "image at " ++ oid_text oid ++ codes " rule I" ++ decimal (rule_number (rule_of rule))

abbrev pub fault_text : StoreFault → List ℕ
fault_text (fault.NotStore flaw) = codes "not a store: " ++ flaw_text flaw
fault_text fault.Disk = codes "disk fault"
fault_text fault.NoMemory = codes "out of memory"
