-- Promises that apply: the scripts. In each the premises of its theorems hold although calls of every kind come in between that the premises let pass, so
-- that a premise which is too narrow fails here. What is answered is read from the paper. One refusal is missing, 033: no history of this length reaches it.
use Rattle.std.specs.Prelude.{true, false, List, [], ◌∷◌, ◌++◌}
use Rattle.controller.specs.Refusals.{power_on, byte, tick, press, emptying}
use Rattle.demands.specs.Exchanges.{change, gap}
use Rattle.demands.specs.CallsTable.{lent}
use Rattle.demands.specs.Walks.{◌⇒◌, lends, gives, powers}
use Rattle.demands.specs.Applying.{Back, on_time, on_bad, goes_on, as_planned, mid_plan, First, Logs, Reads, Script}
use Rattle.demands.specs.Applying.{back, running, unpausing, ending, start_shown, tick_shown, first_read, first_write, logging, listing, one_read, totalling}
use Rattle.demands.specs.RefusedCalls.{others, ends}
use Rattle.demands.specs.TotalScripts.{without_gap, over_a_gap}
use Rattle.demands.specs.RunScripts.{by_command, by_plan, by_long_plan, by_parameter, by_button, on_end_mark, on_bad_line, at_end_mark, end_mark_read, bad_line_read}

-- ---- read-back

-- a line goes to 005 by I, and is read back by D
abbrev pub to_five : Back
to_five = record {
  k = 5;
  address = "I";
  line = "S008A0000F10250";
  again = "D";
  before =
      powers 64
      ∷ "CW004N1^" ⇒ "OK^"
      -- a tick, the button Pause, an emptying and a byte that is refused between the characters
      ∷ "c W#i s 00 8a%00" ⇒ ""
      ∷ gives []
      ∷ lends (byte 88) (lent 1600 1600 64 15) 32
      ∷ " 00f 1 02 50 " ⇒ ""
      ∷ [];
  later =
      -- reads of each sort, by digits, I and D; 212 clears the event
      "CR005^CRI^CRI^CRD^" ⇒ "S008A0000F10250^S00000000000000^E024^S008A0000F10250^"
      ∷ "CR200^CRI^CRI^CRI^CRI^CRI^CRI^" ⇒ "S00000000000000^80^00^00^00^00^00^"
      ∷ "CR207^CRI^CRI^CRI^CRI^CRI^CRI^CRI^CRI^CRI^" ⇒ "00^000^000^000^000^012^0000^0000^0000^0000^"
      -- writes to other lines, to 200, to an output byte and the parameter
      ∷ "CW006N2^CW000S00000000010003^CWIS00000000020000^CW200F40007^CW206A5^CW209006^" ⇒ "OK^OK^OK^OK^OK^OK^"
      -- 006, 001 and 008
      ∷ "CW210006^CW210001^CW210008^" ⇒ "OK^OK^OK^"
      -- errors, writes to 005 among them
      ∷ "^CR^XW005N1^CW005^CW005N11^CW005F50001^CW005X^CR217^CW201N1^CW210002^CW210004^CR007^CW209200^CW210005^" ⇒
      "E001^E001^E002^E002^E002^E003^E003^E004^E004^E022^E021^E024^OK^E023^"
      ∷ []
      -- refused calls, a write to 005 that is finished by none of them, and an emptying
      ++ (others ++ ("CW005N1" ⇒ "" ∷ [] ++ (ends ++ (
      "X^" ⇒ "E002^"
      ∷ gives (change 255 1 0xA5 0)
      -- 003, a pause by 002 and by the button, a tick in it, 004; errors while it runs, a load among them
      ∷ "CW210003^#CW210002^#CR201^CW20601^%#%CW210004^CW210004^CW210007^CW005N1^CW210003^CW209000^CR211^" ⇒
      "OK^OK^03^E005^OK^E021^E020^E005^E020^OK^000^"
      -- stopped by the button, by 001 after 005, and the end
      ∷ "!CR212^CW210005^CW210001^!###CR212^CR206^CR206^" ⇒ "010^OK^OK^011^02^02^"
      ∷ "CR006^c# R%" ⇒ "N2^"
      ∷ gives (change 0 1 1 0xA5 ++ change 1 7 2 1)
      ∷ lends (byte 120) (lent 1600 1600 64 0) 32
      ∷ " d" ⇒ ""
      ∷ [])))
      );
}

-- a line goes to 200 by I, and is read back by digits; a load and a save come in between
abbrev pub to_single : Back
to_single = record {
  k = 200;
  address = "I";
  line = "F30012";
  again = "200";
  before = powers 64 ∷ "CW199N1^cWi f 3" ⇒ "OK^" ∷ "00 12" ⇒ "" ∷ [];
  later =
      "CW000S00000000010001^CW210008^CW000N2^CW210007^CR000^CW209200^CW210006^CW199F10001^CW20501^" ⇒
      "OK^OK^OK^OK^S00000000010001^OK^OK^OK^OK^"
      ∷ "!%CR200^%#CR212^CW200^CW200S^CR199^CR200^" ⇒ "F30012^011^E002^E002^F10001^F30012^"
      ∷ []
      ++ (others ++ ("CW200N1" ⇒ "" ∷ [] ++ (ends ++ ("X^c r2 0 0" ⇒ "E002^" ∷ []))));
}

-- ---- the first address after a power-on

-- nothing is read, whatever is written; a second power-on comes among the calls, and one that is refused
abbrev pub unread : First
unread = record {
  before = powers 32 ∷ "CR007^CR216^CWIN1^" ⇒ "E024^0000^OK^" ∷ [];
  room = 64;
  later =
      "CW000S00000000030004^CWIN1^CWI^CW003N3^CW203FF^CW20601^CW209000^CW210003^#%#%CW210001^CW210008^CW210007^" ⇒
      "OK^OK^E002^OK^OK^OK^OK^OK^OK^OK^OK^"
      ∷ "CR007^CR217^CR0000^CRD^CR^^XR000^CR0X0^" ⇒ "E024^E004^E002^E004^E001^E001^E002^E004^"
      ∷ []
      ++ (others ++ ("CR000" ⇒ "" ∷ [] ++ (ends ++ (
      "X^!!" ⇒ "E002^"
      ∷ lends power_on (lent 1599 1600 64 0) 30
      ∷ powers 64
      ∷ "CW000F20004^CWI F 4 0 9 0 1^" ⇒ "OK^OK^"
      ∷ gives []
      ∷ [])))
      );
  next = "c%r" ⇒ "" ∷ lends (byte 13) (lent 1600 1600 64 15) 32 ∷ "# I" ⇒ "" ∷ [];
  reply = "F20004";
  previous = "c R#d 5 x" ⇒ "" ∷ [];
  left = "5X";
}

-- nothing is written, whatever is read; the program was saved before the power-on
abbrev pub unwritten : First
unwritten = record {
  before = powers 32 ∷ "CW000S00000000010009^CW210008^CR000^" ⇒ "OK^OK^S00000000010009^" ∷ [];
  room = 64;
  later =
      "CR000^CRI^CRI^CRD^CR200^CR201^CR206^CR209^CR210^CR211^CR212^CR216^CR007^" ⇒
      "S00000000010009^S00000000000000^S00000000000000^S00000000000000^S00000000000000^80^00^000^000^000^012^0000^E024^"
      ∷ "CW217^CW201N1^CW000^CW000X^CW000F50001^CW210002^CW210004^CW210009^CW209256^CWDN1^CW^^XW000N1^" ⇒
      "E004^E004^E002^E003^E003^E022^E021^E003^E003^E004^E001^E001^E002^"
      ∷ "!#%#CW000N1^CW210003^CW20600^%CR206^" ⇒ "E005^E020^E005^01^"
      ∷ []
      ++ (others ++ ("CW000N1" ⇒ "" ∷ [] ++ (ends ++ (
      "X^!CR212^CWIS" ⇒ "E005^010^"
      ∷ gives (change 0 0 1 0)
      ∷ "^" ⇒ "E002^"
      ∷ [])))
      );
  next = "cw#i s00%fFfF" ⇒ "" ∷ lends (byte 13) (lent 1600 1600 64 15) 32 ∷ "ffff 9999" ⇒ "" ∷ [];
  reply = "OK";
  previous = "c w#d n1" ⇒ "" ∷ [];
  left = "N1";
}

-- ---- the log

-- A log of three places: four changes, of each cause, and a refused emptying; then three more.
abbrev pub two_logs : Logs
two_logs = record {
  before = powers 32 ∷ "CW20607^" ⇒ "OK^" ∷ lends power_on (lent 1600 1600 31 0) 31 ∷ [];
  room = 48;
  once =
      "CW000S00000000010002^CWIS00000000000000^CW20603^#CW20603^CW210003^#%#%CW20605^#" ⇒ "OK^OK^OK^OK^OK^E005^"
      ∷ lends emptying (lent 0 0 48 47) 35
      ∷ lends emptying (lent 0 0 64 64) 31
      ∷ lends tick (lent 1599 0 48 0) 30
      ∷ "CW209000^CW210006^CW20604" ⇒ "OK^OK^"
      ∷ lends (byte 13) (lent 1600 1600 48 15) 32
      ∷ "4^CR206^" ⇒ "E002^01^"
      ∷ [];
  first = change 255 0 3 0 ++ (change 0 1 1 3 ++ gap 4 2 1);
  later =
      "CW20602^CW20602^CR206^" ⇒ "OK^OK^02^"
      ∷ lends emptying (lent 0 0 48 15) 35
      ∷ lends (press 1) (lent 1600 0 47 0) 31
      ∷ lends (press 3) (lent 1600 0 48 0) 34
      ∷ [];
  last = "CW20600^#CW20609^CR^" ⇒ "OK^OK^E001^" ∷ lends emptying (lent 0 0 32 64) 31 ∷ [];
  second = change 255 4 2 1 ++ (change 255 5 0 2 ++ gap 6 1 9);
}

-- A log of two places, with few calls: all that is lent is looked at byte by byte.
abbrev pub short_logs : Logs
short_logs = record {
  before = powers 33 ∷ [];
  room = 32;
  once = "CW20601^#!" ⇒ "OK^" ∷ lends (byte 13) (lent 9 0 32 16) 30 ∷ lends emptying (lent 0 0 32 31) 35 ∷ "%" ⇒ "" ∷ [];
  first = change 255 0 1 0 ++ gap 1 1 0;
  later = "CW20602^" ⇒ "OK^" ∷ lends (press 0) (lent 1600 0 32 0) 34 ∷ [];
  last = "!" ⇒ "" ∷ [];
  second = change 255 1 2 0 ++ gap 2 1 0;
}

-- ---- one command, with other calls between its characters

abbrev pub of_outputs : Reads
of_outputs = record {
  k = 206;
  address = "D";
  reply = "3C";
  is_on_bad = false;
  before = powers 32 ∷ "CW2063C^CR207^ c#" ⇒ "OK^00^" ∷ gives (change 255 0 0x3C 0) ∷ lends (byte 13) (lent 1600 1600 31 16) 31 ∷ "R%d" ⇒ "" ∷ [];
}

abbrev pub of_bad_line : Reads
of_bad_line = record {
  k = 7;
  address = "007";
  reply = "E024";
  is_on_bad = true;
  before = powers 32 ∷ "CR006^c R0#0" ⇒ "S00000000000000^" ∷ lends tick (lent 1600 0 33 0) 31 ∷ "%7" ⇒ "" ∷ [];
}

-- ---- all of them

unfoldable pub scripts : List Script
scripts =
    back to_five
    ∷ back to_single
    ∷ running on_time by_command
    ∷ running on_bad by_parameter
    ∷ running goes_on by_button
    ∷ running (mid_plan (1 ∷ 10000 ∷ 2 ∷ 1 ∷ [])) by_long_plan
    ∷ running (as_planned (1 ∷ 2 ∷ 2 ∷ 1 ∷ 0 ∷ 1 ∷ 4 ∷ 2 ∷ [])) by_plan
    ∷ unpausing by_button
    ∷ ending on_end_mark
    ∷ ending on_bad_line
    ∷ start_shown at_end_mark end_mark_read
    ∷ tick_shown by_parameter bad_line_read
    ∷ first_read unread
    ∷ first_write "S00FFFFFFFF9999" unwritten
    ∷ logging two_logs
    ∷ listing short_logs
    ∷ one_read of_outputs
    ∷ one_read of_bad_line
    ∷ []

-- those of the switching totals: all that is lent is looked at byte by byte, so they are computed by themselves
unfoldable pub total_scripts : List Script
total_scripts = totalling without_gap ∷ totalling over_a_gap ∷ []
