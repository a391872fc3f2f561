use Rattle.image_tables.proofs.GlobalOctets.{resolved_octets}
use Rattle.image_tables.proofs.LinkedOctets.{linked_are_octets}
use Rattle.image_tables.proofs.octet_laws.octets.Goals as goal

pub returns : goal.returns
returns c = record { linked = linked_are_octets; resolved = resolved_octets }
