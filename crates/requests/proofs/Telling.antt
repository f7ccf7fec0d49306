-- The message that tells of a filter: how long its parts are, and that its pieces are it. Assumes nothing.
use Rattle.std.proofs.Common.{◌≡◌, ℕ, ◌+◌, ◌≤◌, List, [], ◌∷◌, ◌++◌, length, replicate, Some, None, Option, sym, refl, ap, ◌∙◌, arith}
use Rattle.std.proofs.lemmas.List.{length-append, append-nil}
use Rattle.records.specs.Words.{bytes2}
use Rattle.records.specs.Align.{padded, fill}
use Rattle.records.specs.Fields.{tcmsg_bytes}
use Rattle.records.specs.declared.tcmsg.Tcmsg.{Tcmsg}
use Rattle.requests.specs.Asks.{Key}
use Rattle.requests.specs.Table.{filter_header}
use Rattle.requests.specs.Bytes.{attribute_bytes, row_bytes}
use Rattle.requests.specs.FilterMessages.{closed, name_row, name_options, filter_row, filter_message, options_length, filter_length, filter_bytes, optional_name_fault, filter_fault}
use Rattle.requests.specs.Refusals.{name_fault, interface_fault}
use Rattle.requests.specs.Writing.{Puts}
use Rattle.requests.proofs.Rows.{attribute_length, row_fours}
use Rattle.requests.proofs.Standing.{first_none, name_short}
use Rattle.requests.proofs.Putting.{puts_both, puts_same}
use Rattle.requests.proofs.Messages.{header_bytes, message_length, message_puts}

pub text_length : (kind : ℕ) (text : List ℕ) → length (attribute_bytes (record { kind = kind; payload = closed text })) ≡ padded (length text + 5)
text_length kind text = omega (arith, attribute_length (record { kind = kind; payload = closed text }), length-append text (0 ∷ []))

pub name_length : (name : List ℕ) → length (row_bytes (name_row name)) ≡ padded (length name + 5)
name_length name = ap length (append-nil (attribute_bytes (record { kind = 7; payload = closed name }))) ∙ text_length 7 name

-- options are their header and the name's attribute
pub options_bytes : (name : List ℕ) (len : ℕ) → len ≡ 4 + padded (length name + 5) →
    (bytes2 len ++ bytes2 2) ++ attribute_bytes (record { kind = 7; payload = closed name }) ≡ row_bytes (name_options (Some name))
options_bytes name len e =
    let row = row_bytes (name_row name) in
    let one = append-nil (attribute_bytes (record { kind = 7; payload = closed name })) in
    let k : len ≡ 4 + length row = e ∙ ap (λ (n : ℕ). 4 + n) (sym (name_length name)) in
    let z : fill (4 + length row) ≡ 0 = omega (arith, row_fours (name_row name)) in
    ap (λ (y : List ℕ). (bytes2 len ++ bytes2 2) ++ y) (sym one)
    ∙ ap (λ (n : ℕ). (bytes2 n ++ bytes2 2) ++ row) k
    ∙ ap (λ (y : List ℕ). (bytes2 (4 + length row) ++ bytes2 2) ++ y) (sym (append-nil row))
    ∙ ap (λ (n : ℕ). (bytes2 (4 + length row) ++ bytes2 2) ++ (row ++ replicate n 0)) (sym z)
    ∙ sym (append-nil (attribute_bytes (record { kind = 2; payload = row })))

pub options_size : (name : List ℕ) → options_length (Some name) ≡ 4 + padded (length name + 5)
options_size name =
    let e = ap length (options_bytes name (4 + padded (length name + 5)) refl) in
    omega (arith, e, text_length 7 name)

pub told_length : (flags : ℕ) (key : Key) (kind : List ℕ) (name : Option (List ℕ)) →
    length (filter_bytes flags key kind name) ≡ filter_length kind name
unfolding filter_bytes
told_length flags key kind name =
    let a = attribute_bytes (record { kind = 1; payload = closed kind }) in
    omega (
      arith,
      message_length (filter_message flags key kind name),
      length-append (tcmsg_bytes (filter_header key)) (row_bytes (filter_row kind name)),
      length-append a (row_bytes (name_options name)),
      text_length 1 kind,
    )

pub told_puts : (o0 o1 o2 o3 : List ℕ) (i1 i2 i3 : ℕ) (flags len : ℕ) (key : Key) (header : Tcmsg) (kind : List ℕ) (name : Option (List ℕ)) → filter_header key ≡ header →
    len ≡ filter_length kind name →
    Puts o0 o1 0 i1 (header_bytes len 44 flags ++ tcmsg_bytes header) → Puts o1 o2 i1 i2 (attribute_bytes (record { kind = 1; payload = closed kind })) →
    Puts o2 o3 i2 i3 (row_bytes (name_options name)) → Puts o0 o3 0 i3 (filter_bytes flags key kind name)
unfolding filter_bytes
told_puts o0 o1 o2 o3 i1 i2 i3 flags len key header kind name same e p1 p2 p3 =
    message_puts o0 o1 o3 i1 i3 44 flags len (tcmsg_bytes (filter_header key)) _ (row_bytes (filter_row kind name)) refl
    (omega (
      arith,
      length-append (tcmsg_bytes (filter_header key)) (row_bytes (filter_row kind name)),
      length-append (attribute_bytes (record { kind = 1; payload = closed kind })) (row_bytes (name_options name)),
      text_length 1 kind,
    ))
    (puts_same o0 o1 _ _ 0 i1 (ap (λ (h : Tcmsg). header_bytes len 44 flags ++ tcmsg_bytes h) (sym same)) p1) (puts_both o1 o2 o3 _ _ i1 i2 i3 p2 p3)

-- what the checks leave
pub told_texts : (key : Key) (kind : List ℕ) (name : Option (List ℕ)) → filter_fault key kind name ≡ None → (length kind ≤ 256) × (optional_name_fault name ≡ None)
told_texts key kind name e =
    let p = first_none (name_fault kind) (optional_name_fault name) (first_none (interface_fault key.interface) _ e).1 in
    (name_short kind p.0, p.1)

pub options_short : (name : Option (List ℕ)) → optional_name_fault name ≡ None → options_length name ≤ 268
options_short None e = omega arith
options_short (Some name) e = omega (arith, options_size name, name_short name e)
