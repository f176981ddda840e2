mod ShiftedLists
