use Rattle.pe_write.proofs.Octets.{octets}
use Rattle.pe_write.proofs.writing.write_sections.Goals as goal

pub returns-clause-octets : goal.returns-clause-octets
returns-clause-octets c = octets _ c.are_octets.ensures
