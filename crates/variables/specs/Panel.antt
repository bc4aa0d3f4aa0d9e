-- The variables that stand beside the program, the run and the wire: at power-on, and one of them altered.
use Rattle.std.specs.Prelude.{ℕ, Bool, true, List}
use Rattle.lines.specs.Line.{end_mark, bytes_of}
use Rattle.variables.specs.declared.Panel.{Panel}

-- 01, 'Variables': 200 is the "end mark with outputs 0 at power-on", 210 is "000 at first"; 'Running': "parameter 0, [...] event 012"
abbrev pub fresh_panel : Panel
fresh_panel = record { single = bytes_of end_mark; parameter = 0; special = 0; event = 12; unread = true }

abbrev pub with_single : List ℕ → Panel → Panel
with_single x v = record { single = x; parameter = v.parameter; special = v.special; event = v.event; unread = v.unread }

abbrev pub with_parameter : ℕ → Panel → Panel
with_parameter x v = record { single = v.single; parameter = x; special = v.special; event = v.event; unread = v.unread }

abbrev pub with_special : ℕ → Panel → Panel
with_special x v = record { single = v.single; parameter = v.parameter; special = x; event = v.event; unread = v.unread }

abbrev pub with_event : ℕ → Bool → Panel → Panel
with_event e unread v = record { single = v.single; parameter = v.parameter; special = v.special; event = e; unread = unread }
