use Rattle.std.proofs.Common.{refl}
use Rattle.std.specs.Fmt.{digits}
use Rattle.gate_net.specs.Addresses.{dotted_of, colon_hex_of, written_of}
use Rattle.gate_net.specs.Subnets.{mask_length, length_of, parted_at, subnet_of}
use Rattle.gate_net.specs.Permissions.{permitted_by}
use Rattle.gate_net.specs.Whitelists.{entry_of, flags_of}
use Rattle.gate_net.proofs.examples.small_texts.Goals as goal

pub returns-clause-addresses : goal.returns-clause-addresses
unfolding digits dotted_of colon_hex_of written_of
returns-clause-addresses c = record {
  full = refl;
  zeros = refl;
  middle = refl;
  multicast = refl;
  loopback = refl;
  unspecified = refl;
  one_group = refl;
  leading = refl;
  embedded = refl;
  zone = refl;
  twice = refl;
  nine = refl;
  long = refl;
  mapped = refl;
  octal = refl;
  short = refl;
}

pub returns-clause-entries : goal.returns-clause-entries
unfolding digits dotted_of colon_hex_of written_of mask_length length_of parted_at subnet_of permitted_by entry_of flags_of
returns-clause-entries c = record {
  implicit = refl;
  united = refl;
  netmask = refl;
  outside = refl;
  families = refl;
  sixth = refl;
  mapped = refl;
  unknown = refl;
  unknown_first = refl;
  mapped_subnet = refl;
  gap = refl;
  great = refl;
}
