use Rattle.x64_laws.proofs.Addresses.{addresses_are_sums, lea_puts_address}
use Rattle.x64_laws.proofs.addressing.addresses.Goals as goal

pub returns : goal.returns
returns c = record { sums = addresses_are_sums; lea = lea_puts_address }
