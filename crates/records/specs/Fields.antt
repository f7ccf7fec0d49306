-- The fields of each record in their order: how they lie in bytes, and how they are taken out again.
use Rattle.std.specs.Prelude.{ℕ, ◌^◌, ◌<◌, List, ◌∷◌, ◌++◌, drop, FitsSigned, slice_index}
use Rattle.std.proofs.Common.{to_z, of_z}
use Rattle.std.specs.Int.{w32}
use Rattle.records.specs.Words.{bytes2, bytes4, le2, le4}
use Rattle.records.specs.declared.nlattr.Nlattr.{Nlattr}
use Rattle.records.specs.declared.nlmsghdr.Nlmsghdr.{Nlmsghdr}
use Rattle.records.specs.declared.nlmsgerr.Nlmsgerr.{Nlmsgerr}
use Rattle.records.specs.declared.ifinfomsg.Ifinfomsg.{Ifinfomsg}
use Rattle.records.specs.declared.tcmsg.Tcmsg.{Tcmsg}

-- nlattr: nla_len u16, nla_type u16
abbrev pub nlattr_bytes : Nlattr → List ℕ
nlattr_bytes x = bytes2 x.len ++ bytes2 x.kind

abbrev pub nlattr_of : List ℕ → Nlattr
nlattr_of b = record { len = le2 b 0; kind = le2 b 2 }

abbrev pub NlattrFits : Nlattr → Type 0
NlattrFits x = (x.len < 2 ^ 16) × (x.kind < 2 ^ 16)

-- nlmsghdr: nlmsg_len u32, nlmsg_type u16, nlmsg_flags u16, nlmsg_seq u32, nlmsg_pid u32
abbrev pub nlmsghdr_bytes : Nlmsghdr → List ℕ
nlmsghdr_bytes x = bytes4 x.len ++ (bytes2 x.kind ++ (bytes2 x.flags ++ (bytes4 x.seq ++ bytes4 x.pid)))

abbrev pub nlmsghdr_of : List ℕ → Nlmsghdr
nlmsghdr_of b = record { len = le4 b 0; kind = le2 b 4; flags = le2 b 6; seq = le4 b 8; pid = le4 b 12 }

abbrev pub NlmsghdrFits : Nlmsghdr → Type 0
NlmsghdrFits x = (x.len < 2 ^ 32) × (x.kind < 2 ^ 16) × (x.flags < 2 ^ 16) × (x.seq < 2 ^ 32) × (x.pid < 2 ^ 32)

-- nlmsgerr: the status i32, and the header of the message that it answers
abbrev pub nlmsgerr_bytes : Nlmsgerr → List ℕ
nlmsgerr_bytes x = bytes4 (of_z w32 x.status) ++ nlmsghdr_bytes x.header

abbrev pub nlmsgerr_of : List ℕ → Nlmsgerr
nlmsgerr_of b = record { status = to_z w32 (le4 b 0); header = nlmsghdr_of (drop 4 b) }

abbrev pub NlmsgerrFits : Nlmsgerr → Type 0
NlmsgerrFits x = FitsSigned w32 x.status × NlmsghdrFits x.header

-- ifinfomsg: ifi_family u8, a pad u8, ifi_type u16, ifi_index i32, ifi_flags u32, ifi_change u32
abbrev pub ifinfomsg_bytes : Ifinfomsg → List ℕ
ifinfomsg_bytes x =
    x.family ∷ x.pad ∷ (bytes2 x.kind ++ (bytes4 (of_z w32 x.index) ++ (bytes4 x.flags ++ bytes4 x.change)))

abbrev pub ifinfomsg_of : List ℕ → Ifinfomsg
ifinfomsg_of b =
    record { family = slice_index b 0; pad = slice_index b 1; kind = le2 b 2; index = to_z w32 (le4 b 4); flags = le4 b 8; change = le4 b 12 }

abbrev pub IfinfomsgFits : Ifinfomsg → Type 0
IfinfomsgFits x =
    (x.family < 2 ^ 8) × (x.pad < 2 ^ 8) × (x.kind < 2 ^ 16) × FitsSigned w32 x.index × (x.flags < 2 ^ 32) × (x.change < 2 ^ 32)

-- tcmsg: tcm_family u8, a pad u8, a pad u16, tcm_ifindex i32, tcm_handle u32, tcm_parent u32, tcm_info u32
abbrev pub tcmsg_bytes : Tcmsg → List ℕ
tcmsg_bytes x =
    x.family
    ∷ x.pad1
    ∷ (bytes2 x.pad2 ++ (bytes4 (of_z w32 x.ifindex) ++ (bytes4 x.handle ++ (bytes4 x.parent ++ bytes4 x.info))))

abbrev pub tcmsg_of : List ℕ → Tcmsg
tcmsg_of b =
    record {
      family = slice_index b 0;
      pad1 = slice_index b 1;
      pad2 = le2 b 2;
      ifindex = to_z w32 (le4 b 4);
      handle = le4 b 8;
      parent = le4 b 12;
      info = le4 b 16;
    }

abbrev pub TcmsgFits : Tcmsg → Type 0
TcmsgFits x =
    (x.family < 2 ^ 8) × (x.pad1 < 2 ^ 8) × (x.pad2 < 2 ^ 16) × FitsSigned w32 x.ifindex × (x.handle < 2 ^ 32) × (x.parent < 2 ^ 32)
    × (x.info < 2 ^ 32)
