-- The marked cases are told what the table says, computed from the definitions.
use Rattle.std.specs.Prelude.{refl}
use Rattle.format.specs.Bytes.{same, stored}
use Rattle.format.specs.Integers.{digits, is_empty_lead, read_integer, write_leads, write_integer}
use Rattle.format.specs.Uris.{class_of, rest_form, scheme_form, uri_form, is_uri, type_name, header_name, deleted_name, allowed, is_reserved, appendable}
use Rattle.format.specs.Header.{marker, is_hex, all_hex, dashed, uuid_form, header_form, hex_digit, hex_text, uuid_text, header_of}
use Rattle.format.specs.Register.{find, insert, remove, has_room, free_from, holder, table_of, uri_of, number_for}
use Rattle.format.specs.Records.{assigned, room_for, assignable, assignment_part, header_part, data_part, named_part, type_part, size_part, element, header_at, item}
use Rattle.format.specs.Reading.{walk, walk_all, look, look_at, all_unused, fit_rows, fits, assigned_rows, table_of_kind, table_after, moved, at_end, step_at, step}
use Rattle.format.specs.Calls.{parted, book_of, sound, record_of, write, append_new, append_held, append_walked, assign_under, assign_walked, may_append, may_assign, erase_entry, erase_item, erase_looked, is_blank, clear_first, clear_last, store, stores, nonzeros, splice, wipe_item, wipe_looked, call, call_on, start}
use Rattle.format.specs.Listing.{decimal_in, decimal, line, entry_line, end_line, refused_line, item_line, shown_text, listing_from, listing_on, listing}
use Rattle.format.specs.Epochs.{number_from, epoch_in, epoch_of, big_endian, signed, coordinate_at, position_of, in_bounds, shift_from, shift_named, shift}
use Rattle.format.specs.MarkedCases.{told, answers_of, book_after, Marked}

-- ---- the statement: each case is told what the table says
pub marked : Marked
unfolding same stored digits is_empty_lead read_integer write_leads write_integer class_of rest_form scheme_form uri_form is_uri
    type_name header_name deleted_name allowed is_reserved appendable marker is_hex all_hex dashed uuid_form header_form hex_digit
    hex_text uuid_text header_of find insert remove has_room free_from holder table_of uri_of number_for assigned room_for assignable
    assignment_part header_part data_part named_part type_part size_part element header_at item walk walk_all look look_at all_unused
    fit_rows fits assigned_rows table_of_kind table_after moved at_end step_at step parted book_of sound record_of write append_new
    append_held append_walked assign_under assign_walked may_append may_assign erase_entry erase_item erase_looked is_blank clear_first
    clear_last store stores nonzeros splice wipe_item wipe_looked call call_on start decimal_in decimal line entry_line end_line
    refused_line item_line shown_text listing_from listing_on listing number_from epoch_in epoch_of big_endian signed coordinate_at
    position_of in_bounds shift_from shift_named shift answers_of book_after told
marked = refl
