-- Records with the same fields. Assumes nothing.
use Rattle.std.proofs.Common.{◌≡◌, ℕ, List, ◌++◌, ℤ, ap, ◌∙◌, w32, to_z, of_z}
use mir.Facts.{Fits-of_z}
use Rattle.std.proofs.lemmas.Int.{to_z-of_z}
use Rattle.records.specs.WordsLemmas.{half_back, word_back}
use Rattle.records.specs.Fields.{ifinfomsg_bytes, ifinfomsg_of, IfinfomsgFits, tcmsg_bytes, tcmsg_of, TcmsgFits}
use Rattle.records.specs.declared.ifinfomsg.Ifinfomsg.{Ifinfomsg}
use Rattle.records.specs.declared.tcmsg.Tcmsg.{Tcmsg}

pub same_ifinfomsg : {a b c e f c' e' f' : ℕ} {d d' : ℤ} → c ≡ c' → d ≡ d' → e ≡ e' → f ≡ f' →
    ◌≡◌ {A = Ifinfomsg} record { family = a; pad = b; kind = c; index = d; flags = e; change = f }
    record { family = a; pad = b; kind = c'; index = d'; flags = e'; change = f' }
same_ifinfomsg p q r s = cc

pub same_tcmsg : {a b c e f g c' e' f' g' : ℕ} {d d' : ℤ} → c ≡ c' → d ≡ d' → e ≡ e' → f ≡ f' → g ≡ g' →
    ◌≡◌ {A = Tcmsg} record { family = a; pad1 = b; pad2 = c; ifindex = d; handle = e; parent = f; info = g }
    record { family = a; pad1 = b; pad2 = c'; ifindex = d'; handle = e'; parent = f'; info = g' }
same_tcmsg p q r s t = cc

-- a record behind which other bytes follow is read back
pub ifinfomsg_back : (x : Ifinfomsg) (r : List ℕ) → IfinfomsgFits x → ifinfomsg_of (ifinfomsg_bytes x ++ r) ≡ x
ifinfomsg_back x r f =
    same_ifinfomsg (half_back x.kind f.2) (ap (to_z w32) (word_back (of_z w32 x.index) (Fits-of_z f.3).fits) ∙ to_z-of_z w32 x.index f.3)
    (word_back x.flags f.4) (word_back x.change f.5)

pub tcmsg_back : (x : Tcmsg) (r : List ℕ) → TcmsgFits x → tcmsg_of (tcmsg_bytes x ++ r) ≡ x
tcmsg_back x r f =
    same_tcmsg (half_back x.pad2 f.2) (ap (to_z w32) (word_back (of_z w32 x.ifindex) (Fits-of_z f.3).fits) ∙ to_z-of_z w32 x.ifindex f.3)
    (word_back x.handle f.4) (word_back x.parent f.5) (word_back x.info f.6)
