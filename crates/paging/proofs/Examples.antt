use Rattle.std.proofs.Common.{refl}
use Rattle.paging.specs.Schemes.{two_level, pae, four_level}
use Rattle.paging.specs.Translations as rel
use Rattle.paging.specs.Worked.{Worked, EveryTrailIsShort}
use Rattle.paging.specs.Sounds.{two_sound, pae_sound, four_sound}
use Rattle.paging.proofs.Showing.{shows}

pub worked : Worked
worked = record {
  two = λ m h. (_, record { base = 0x400000; size = 0x400000 }, record { lawful = refl; chain = rel.Leads.page (_, h, refl) refl }, refl);
  pae = refl;
  four = λ m table h. (_, record { base = 0x600000; size = 0x200000 }, rel.Leads.page (_, h, refl) refl, refl);
}

pub short_trails : EveryTrailIsShort
short_trails cr3 below a = record {
  two = (shows two_level cr3 below two_sound a).short;
  pae = (shows pae cr3 below pae_sound a).short;
  four = (shows four_level cr3 below four_sound a).short;
}
