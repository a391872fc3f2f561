use Rattle.image_tables.proofs.RegionRanges.{lowered_has_regions}
use Rattle.image_tables.proofs.RegionStarts.{lowered_begins_past_prologues}
use Rattle.image_tables.proofs.FuncletNumbers.{lowered_names_funclets}
use Rattle.image_tables.proofs.region_laws.regions.Goals as goal

pub returns : goal.returns
returns c = record {
  ranges = lowered_has_regions;
  begins = lowered_begins_past_prologues;
  funclets = lowered_names_funclets;
}
